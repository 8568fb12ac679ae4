-- How acceleration leads a velocity to its cap along the wish.
use Rattle.std.proofs.Common.{◌≡◌, ℕ, zero, suc, ◌+◌, ◌*◌, ◌/◌, ◌<◌, ◌≤◌, ℤ, pos, negsuc, ◌+ℤ◌, ◌-ℤ◌, ◌*ℤ◌, ◌≤ℤ◌, ◌<ℤ◌, refl, ap, ◌∙◌, arith}
use Rattle.std.specs.Prelude.{unsigned_abs}
use Rattle.std.specs.Int.{int_min}
use borrow.Author.Differences.{up, down}
use Rattle.std.proofs.Math.Nat.{div-mul-le_self}
use Rattle.std.proofs.lemmas.Nat.{mul-le}
use Rattle.std.proofs.lemmas.Int.{ints, clamps}
use Rattle.arena_geo.specs.declared.vec3.Vec3.{Vec3}
use Rattle.arena_geo.specs.Roots.{IsRoot}
use Rattle.arena_geo.proofs.Squares.{next_square}
use Rattle.speed_rules.specs.Measures.{scaled_part, dot_of}
use Rattle.speed_rules.specs.Rules.{velocity_with_gain}
use Rattle.speed_rules.proofs.Shares.{abs-scaled, scaled_stays_positive, scaled_stays_negative}
use Rattle.speed_rules.specs.Laws.{StopsAtCap, ReachesCap}
use Rattle.speed_rules.proofs.Gaining.{above_quotient, le_from_times, legs_le}

-- ---- the gain in the product with the wish
-- numbers on one side of 0 have the product of their sizes
times_same_side : (z x : ℤ) → (pos 0 ≤ℤ x → pos 0 ≤ℤ z) → (x ≤ℤ pos 0 → z ≤ℤ pos 0) → z *ℤ x ≡ pos (unsigned_abs z * unsigned_abs x)
times_same_side (pos m) (pos n) above below = refl
times_same_side (pos zero) (negsuc n) above below = omega (arith, ints)
times_same_side (pos (suc m)) (negsuc n) above below = absurd (omega (arith, ints, below (omega (arith, ints))))
times_same_side (negsuc m) (pos n) above below = absurd (omega (arith, ints, above (omega (arith, ints))))
times_same_side (negsuc m) (negsuc n) above below = refl

scaled_times : (x : ℤ) (gain whole : ℕ) → scaled_part x (pos gain) whole *ℤ x ≡ pos (unsigned_abs x * gain / whole * unsigned_abs x)
scaled_times x gain whole =
    times_same_side (scaled_part x (pos gain) whole) x (scaled_stays_positive x gain whole) (scaled_stays_negative x gain whole)
    ∙ ap (λ n. pos (n * unsigned_abs x)) (abs-scaled x (pos gain) whole)

pub times_sum : (a s x : ℤ) → (a +ℤ s) *ℤ x ≡ a *ℤ x +ℤ s *ℤ x
times_sum a s x =
    let sum : up (a +ℤ s) + down a + down s ≡ down (a +ℤ s) + up a + up s = omega (arith, ints) in
    omega (arith, ints, ap (λ n. n * up x) sum, ap (λ n. n * down x) sum)

dot_by_parts : (a b s t x y : ℤ) (m n : ℕ) → s *ℤ x ≡ pos m → t *ℤ y ≡ pos n → (a +ℤ s) *ℤ x +ℤ (b +ℤ t) *ℤ y ≡ (a *ℤ x +ℤ b *ℤ y) +ℤ pos (m + n)
dot_by_parts a b s t x y m n one other = omega (arith, ints, times_sum a s x, times_sum b t y, one, other)

-- what a gain adds to the product, from the sizes of the wish's parts
abbrev pub added : ℕ → ℕ → ℕ → ℕ → ℕ
added x y gain len = x * gain / len * x + y * gain / len * y

pub dot_pushed : (v : Vec3) (x y : ℤ) (len gain : ℕ) → dot_of (velocity_with_gain v x y len (pos gain)) x y ≡ dot_of v x y +ℤ pos (added (unsigned_abs x) (unsigned_abs y) gain len)
dot_pushed v x y len gain = dot_by_parts v.x v.y _ _ x y _ _ (scaled_times x gain len) (scaled_times y gain len)

-- one axis adds at most its part of the gain, and loses less than its part of the wish
share_most : (x gain len : ℕ) → (x * gain / len * x) * len ≤ gain * (x * x)
share_most x gain len =
    let product : (x * gain / len * len) * x ≤ (x * gain) * x = mul-le _ _ _ _ (div-mul-le_self (x * gain) len) (omega arith) in
    omega arith

share_least : (x gain len : ℕ) → 0 < len → gain * (x * x) ≤ (x * gain / len * x) * len + len * x
share_least x gain len some =
    let product : (x * gain) * x ≤ ((x * gain / len + 1) * len) * x = mul-le _ _ _ _ (omega (arith, above_quotient (x * gain) len some)) (omega arith) in
    omega arith

pub added_most : (x y gain len : ℕ) → IsRoot (x * x + y * y) len → 0 < len → 2 * gain ≤ len → added x y gain len ≤ (gain + 1) * len
added_most x y gain len root some short =
    let square : x * x + y * y ≤ len * len + 2 * len = omega (arith, next_square (x * x + y * y) len root) in
    let all : gain * (x * x + y * y) ≤ gain * (len * len + 2 * len) = mul-le _ _ _ _ (omega arith) square in
    let cuts : (2 * gain) * len ≤ len * len = mul-le _ _ _ _ short (omega arith) in
    le_from_times _ _ len some (omega (arith, share_most x gain len, share_most y gain len))

pub added_least : (x y gain len : ℕ) → IsRoot (x * x + y * y) len → 16 ≤ len → 2 * gain * len ≤ 2 * added x y gain len + 3 * len
added_least x y gain len root long =
    let some : 0 < len = omega arith in
    let square : x * x + y * y ≤ len * len + 2 * len = omega (arith, next_square (x * x + y * y) len root) in
    let far : 16 * len ≤ len * len = mul-le _ _ _ _ long (omega arith) in
    let part : gain * (len * len) ≤ gain * (x * x + y * y) = mul-le _ _ _ _ (omega arith) root.square in
    let lost : (2 * (x + y)) * len ≤ (3 * len) * len = mul-le _ _ _ _ (legs_le x y len (omega arith)) (omega arith) in
    le_from_times _ _ len some (omega (arith, share_least x gain len some, share_least y gain len some))

-- ---- from the gain to the cap
pub gain_is_pos : (allowed : ℕ) (missing : ℤ) → pos 0 <ℤ missing → int_min (pos allowed) missing ≡ pos (unsigned_abs (int_min (pos allowed) missing))
gain_is_pos allowed missing some = omega (arith, ints, clamps)

pub stops_by : (cap allowed gain : ℕ) (old new : ℤ) → int_min (pos allowed) (pos cap -ℤ old) ≡ pos gain → new ≤ℤ (old +ℤ pos (gain + 1)) → StopsAtCap cap allowed old new
stops_by cap allowed gain old new is most = record { capped = omega (arith, ints, clamps); allowed = omega (arith, ints, clamps) }

pub reaches_by : (cap allowed gain : ℕ) (old new : ℤ) → int_min (pos allowed) (pos cap -ℤ old) ≡ pos gain → (old +ℤ pos gain) ≤ℤ (new +ℤ pos 3) → ReachesCap cap allowed old new
reaches_by cap allowed gain old new is least = record { reached = omega (arith, ints, clamps) }

pub stops_at : (cap allowed : ℕ) (old : ℤ) → StopsAtCap cap allowed old old
stops_at cap allowed old = record { capped = omega (arith, ints, clamps); allowed = omega (arith, ints) }

pub reached_at : (cap allowed : ℕ) (old : ℤ) → (pos cap -ℤ old) ≤ℤ pos 0 → ReachesCap cap allowed old old
reached_at cap allowed old none = record { reached = omega (arith, ints, clamps) }
