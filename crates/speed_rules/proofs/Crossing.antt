-- How far acceleration turns a velocity off its wish.
use Rattle.std.proofs.Common.{◌≡◌, ℕ, zero, suc, ◌+◌, ◌*◌, ◌/◌, ◌<◌, ◌≤◌, Bool, ℤ, pos, negsuc, neg_ℤ, ◌+ℤ◌, ◌-ℤ◌, ◌*ℤ◌, ◌≤ℤ◌, refl, sym, subst, ap, ◌∙◌, inl, inr, arith}
use Rattle.std.specs.Prelude.{unsigned_abs}
use Rattle.std.specs.Int.{int_min}
use Rattle.std.proofs.Math.Nat.{div-mul-le_self}
use Rattle.std.proofs.lemmas.Nat.{mul-le}
use Rattle.std.proofs.lemmas.Bool.{cases_lt}
use Rattle.std.proofs.lemmas.Int.{ints, by_lt_z}
use Rattle.arena_geo.specs.declared.vec3.Vec3.{Vec3}
use Rattle.arena_geo.proofs.Quotients.{int_div-neg}
use Rattle.speed_rules.specs.declared.constants.TheConstants.{UNIT}
use Rattle.speed_rules.specs.Measures.{scaled_part, dot_of, cross_of}
use Rattle.speed_rules.specs.Rules.{missing_of, greatest_gain, velocity_with_gain, accelerated_toward}
use Rattle.speed_rules.specs.Wishes.{wish_length}
use Rattle.speed_rules.specs.Laws.{AccelerationActsAlongTheWish}
use Rattle.speed_rules.proofs.Shares.{below_from_times, reaches_x, reaches_y}
use Rattle.speed_rules.proofs.Gaining.{above_quotient}
use Rattle.speed_rules.proofs.Aiming.{added, times_sum, dot_pushed, gain_is_pos}
use Rattle.speed_rules.proofs.Pushing.{nothing_missing, something_missing}

-- ---- the cuts
-- the shares of a gain on two axes differ from its direction by less than the whole
shares_turn : (x y gain len : ℕ) → 0 < len → x ≤ len → (x * gain / len) * y < (y * gain / len) * x + len
shares_turn x y gain len some within =
    let from : (x * gain / len * len) * y ≤ (x * gain) * y = mul-le _ _ _ _ (div-mul-le_self (x * gain) len) (omega arith) in
    let to : (y * gain + 1) * x ≤ ((y * gain / len + 1) * len) * x = mul-le _ _ _ _ (omega (arith, above_quotient (y * gain) len some)) (omega arith) in
    let square : x * len ≤ len * len = mul-le _ _ _ _ within (omega arith) in
    let positive : 1 * 1 ≤ len * len = mul-le 1 1 len len some some in
    elim (cases_lt 0 x) [
      | inl has ↦ below_from_times _ _ len (omega arith)
      | inr none ↦
          let no_share : x * gain ≤ 0 * gain = mul-le _ _ _ _ none (omega arith) in
          let nothing : (x * gain) * y ≤ 0 * y = mul-le _ _ _ _ (omega arith) (omega arith) in
          below_from_times _ _ len (omega arith)
    ]

-- ---- the sides of 0
neg_times_pos : (a b : ℕ) → neg_ℤ (pos a) *ℤ pos b ≡ neg_ℤ (pos (a * b))
neg_times_pos zero b = omega (arith, ints)
neg_times_pos (suc a) b = refl

pos_times_neg : (a b : ℕ) → pos a *ℤ negsuc b ≡ neg_ℤ (pos (a * suc b))
pos_times_neg a b = refl

neg_times_neg : (a b : ℕ) → neg_ℤ (pos a) *ℤ negsuc b ≡ pos (a * suc b)
neg_times_neg zero b = omega (arith, ints)
neg_times_neg (suc a) b = refl

near_above : (p q len : ℕ) → p < q + len → q < p + len → unsigned_abs (pos p -ℤ pos q) < len
near_above p q len one other = omega (arith, ints)

near_below : (p q len : ℕ) → p < q + len → q < p + len → unsigned_abs (neg_ℤ (pos p) -ℤ neg_ℤ (pos q)) < len
near_below p q len one other = omega (arith, ints)

-- so do they with their signs
parts_turn : (x y : ℤ) (gain len : ℕ) → 0 < len → unsigned_abs x ≤ len → unsigned_abs y ≤ len
    → unsigned_abs (scaled_part x (pos gain) len *ℤ y -ℤ scaled_part y (pos gain) len *ℤ x) < len
parts_turn (pos m) (pos n) gain len some x_within y_within =
    near_above _ _ len (shares_turn m n gain len some x_within) (shares_turn n m gain len some y_within)
parts_turn (pos m) (negsuc n) gain len some x_within y_within =
    rw (int_div-neg (suc n * gain) len, neg_times_pos) (near_below _ _ len (shares_turn m (suc n) gain len some x_within) (shares_turn (suc n) m gain len some y_within))
parts_turn (negsuc m) (pos n) gain len some x_within y_within =
    rw (int_div-neg (suc m * gain) len, neg_times_pos) (near_below _ _ len (shares_turn (suc m) n gain len some x_within) (shares_turn n (suc m) gain len some y_within))
parts_turn (negsuc m) (negsuc n) gain len some x_within y_within =
    rw (int_div-neg (suc m * gain) len, int_div-neg (suc n * gain) len, neg_times_neg, neg_times_neg) (near_above _ _ len (shares_turn (suc m) (suc n) gain len some x_within) (shares_turn (suc n) (suc m) gain len some y_within))

-- ---- the product across the wish
cross_sum : (a b s t x y : ℤ) → ((a +ℤ s) *ℤ y -ℤ (b +ℤ t) *ℤ x) -ℤ (a *ℤ y -ℤ b *ℤ x) ≡ s *ℤ y -ℤ t *ℤ x
cross_sum a b s t x y = omega (arith, ints, times_sum a s y, times_sum b t x)

-- a velocity changes along (x, y), of which len is the length
pub record IsAlong (x y : ℤ) (len : ℕ) (old new : Vec3) : Type 0 where
  pub along : dot_of old x y ≤ℤ dot_of new x y
  pub across : unsigned_abs (cross_of new x y -ℤ cross_of old x y) < len

rests_along : (x y : ℤ) (len : ℕ) (v : Vec3) → 0 < len → IsAlong x y len v v
rests_along x y len v some = record { along = omega (arith, ints); across = omega (arith, ints) }

more_along : (old new : ℤ) (n : ℕ) → new ≡ old +ℤ pos n → old ≤ℤ new
more_along old new n is = omega (arith, ints)

pushed_along : (x y : ℤ) (len : ℕ) (v : Vec3) (gain : ℕ) → 0 < len → unsigned_abs x ≤ len → unsigned_abs y ≤ len
    → IsAlong x y len v (velocity_with_gain v x y len (pos gain))
pushed_along x y len v gain some x_within y_within = record {
  along = more_along _ _ (added (unsigned_abs x) (unsigned_abs y) gain len) (dot_pushed v x y len gain);
  across = rw (cross_sum v.x v.y (scaled_part x (pos gain) len) (scaled_part y (pos gain) len) x y) (parts_turn x y gain len some x_within y_within);
}

-- ---- the law
toward_along : (x y : ℤ) (len : ℕ) (v : Vec3) (ms : ℕ) (on_ground : Bool) → 0 < len → unsigned_abs x ≤ len → unsigned_abs y ≤ len
    → IsAlong x y len v (accelerated_toward v x y len ms on_ground)
toward_along x y len v ms on_ground some x_within y_within =
    let missing = missing_of v x y len on_ground in
    let allowed = greatest_gain len ms in
    by_lt_z (pos 0) missing
    (λ lacks. subst (IsAlong x y len v)
    (ap (velocity_with_gain v x y len) (sym (gain_is_pos allowed missing lacks)) ∙ something_missing len v x y ms on_ground some lacks)
    (pushed_along x y len v (unsigned_abs (int_min (pos allowed) missing)) some x_within y_within))
    (λ none. subst (IsAlong x y len v) (nothing_missing len v x y ms on_ground none) (rests_along x y len v some))

pub acceleration_acts_along_the_wish : AccelerationActsAlongTheWish
acceleration_acts_along_the_wish v wish_x wish_y ms on_ground some =
    let x = wish_x *ℤ UNIT in
    let y = wish_y *ℤ UNIT in
    let leads = toward_along x y (wish_length wish_x wish_y) v ms on_ground some (reaches_x (unsigned_abs x) (unsigned_abs y)) (reaches_y (unsigned_abs x) (unsigned_abs y)) in
    record { along = leads.along; across = leads.across }
