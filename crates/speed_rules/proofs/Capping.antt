-- That acceleration leads the part along a wish to its cap.
use Rattle.std.proofs.Common.{◌≡◌, ℕ, zero, suc, ◌+◌, ◌*◌, ◌<◌, ◌≤◌, min, ℤ, pos, ◌+ℤ◌, ◌*ℤ◌, ◌≤ℤ◌, ◌<ℤ◌, Bool, sym, subst, ap, ◌∙◌, inl, inr, arith}
use Rattle.std.specs.Prelude.{unsigned_abs}
use Rattle.std.specs.Int.{int_min}
use Rattle.std.proofs.lemmas.Nat.{mul-le}
use Rattle.std.proofs.lemmas.Bool.{cases_lt}
use Rattle.std.proofs.lemmas.Int.{ints, clamps, by_lt_z, unsigned_abs-mul}
use Rattle.arena_geo.specs.declared.vec3.Vec3.{Vec3}
use Rattle.arena_geo.specs.Roots.{IsRoot}
use Rattle.arena_geo.proofs.Squares.{root_is_greatest}
use Rattle.speed_rules.specs.declared.constants.TheConstants.{UNIT, MAX_SPEED}
use Rattle.speed_rules.specs.Measures.{dot_of, part_along}
use Rattle.speed_rules.specs.Rules.{cap_of, missing_of, greatest_gain, velocity_with_gain, accelerated_toward}
use Rattle.speed_rules.specs.Wishes.{wish_length}
use Rattle.speed_rules.specs.Laws.{StopsAtCap, ReachesCap, AccelerationStopsAtTheCap, AccelerationReachesTheCap, AccelerationActsBelowTheCap}
use Rattle.speed_rules.proofs.Pushing.{gain_le, nothing_missing, something_missing}
use Rattle.speed_rules.proofs.Gaining.{Gains, quotient_gains}
use Rattle.speed_rules.proofs.Aiming.{added, dot_pushed, added_most, added_least, gain_is_pos, stops_by, reaches_by, stops_at, reached_at}

-- ---- the length of a wish
-- a wish that has a length is 256 or longer
legs_are_long : (m n len : ℕ) → IsRoot ((m * 256) * (m * 256) + (n * 256) * (n * 256)) len → 0 < len → 256 ≤ len
legs_are_long m n len root some =
    elim (cases_lt 0 m) [
      | inl has_x ↦ root.greatest 256 (omega (arith, mul-le 256 256 (m * 256) (m * 256) (omega arith) (omega arith)))
      | inr no_x ↦ elim (cases_lt 0 n) [
        | inl has_y ↦ root.greatest 256 (omega (arith, mul-le 256 256 (n * 256) (n * 256) (omega arith) (omega arith)))
        | inr no_y ↦ absurd (omega (arith, root.square, mul-le m m 0 0 no_x no_x, mul-le n n 0 0 no_y no_y, mul-le 1 1 len len some some))
      ]
    ]

-- what the time allows is at most half of the wish
greatest_gain_is_short : (len ms : ℕ) → ms ≤ 50 → 2 * greatest_gain len ms ≤ len
greatest_gain_is_short len ms brief =
    let product : min len 81920 * ms ≤ len * 50 = mul-le _ _ _ _ (omega arith) brief in
    omega arith

greatest_gain_acts : (len ms : ℕ) → 1 ≤ ms → 256 ≤ len → 2 ≤ greatest_gain len ms
greatest_gain_acts len ms least long =
    let product : 256 * 1 ≤ min len 81920 * ms = mul-le 256 1 (min len 81920) ms (omega arith) least in
    omega arith

-- ---- a wish (x, y) of this length
module _ (x y : ℤ) (len : ℕ) (root : IsRoot (unsigned_abs x * unsigned_abs x + unsigned_abs y * unsigned_abs y) len) (some : 0 < len) where
  -- a velocity that is another with a gain along the wish
  pushed_gains : (v w : Vec3) (gain : ℕ) → velocity_with_gain v x y len (pos gain) ≡ w → Gains gain len (added (unsigned_abs x) (unsigned_abs y) gain len) (part_along v x y len) (part_along w x y len)
  pushed_gains v w gain is =
      let P : Vec3 → Type 0 = λ u. Gains gain len (added (unsigned_abs x) (unsigned_abs y) gain len) (part_along v x y len) (part_along u x y len) in
      subst P is (rw (dot_pushed v x y len gain) (quotient_gains (dot_of v x y) (added (unsigned_abs x) (unsigned_abs y) gain len) gain len some))

  pushed_dot : (v w : Vec3) (gain : ℕ) → velocity_with_gain v x y len (pos gain) ≡ w → dot_of w x y ≡ dot_of v x y +ℤ pos (added (unsigned_abs x) (unsigned_abs y) gain len)
  pushed_dot v w gain is = ap (λ (u : Vec3). dot_of u x y) (sym is) ∙ dot_pushed v x y len gain

  module _ (v : Vec3) (ms : ℕ) (on_ground : Bool) where
    missing : ℤ
    missing = missing_of v x y len on_ground

    -- the gain, where something is missing
    gain : ℕ
    gain = unsigned_abs (int_min (pos (greatest_gain len ms)) missing)

    after : Vec3
    after = accelerated_toward v x y len ms on_ground

    gain_is : pos 0 <ℤ missing → int_min (pos (greatest_gain len ms)) missing ≡ pos gain
    unfolding gain
    gain_is lacks = gain_is_pos (greatest_gain len ms) missing lacks

    pushed_is : pos 0 <ℤ missing → velocity_with_gain v x y len (pos gain) ≡ after
    unfolding missing gain after
    pushed_is lacks =
        ap (velocity_with_gain v x y len) (sym (gain_is_pos (greatest_gain len ms) missing lacks)) ∙ something_missing len v x y ms on_ground some lacks

    gain_is_short : pos 0 <ℤ missing → ms ≤ 50 → 2 * gain ≤ len
    unfolding gain
    gain_is_short lacks brief = omega (arith, gain_le (greatest_gain len ms) missing lacks, greatest_gain_is_short len ms brief)

    gain_acts : pos 1 <ℤ missing → 1 ≤ ms → 256 ≤ len → 2 ≤ gain
    unfolding gain
    gain_acts lacks least long =
        let allowed : 2 ≤ greatest_gain len ms = greatest_gain_acts len ms least long in
        omega (arith, ints, clamps)

    -- from the part along the wish before, to that of this velocity
    abbrev Leads : (ℕ → ℕ → ℤ → ℤ → Type 0) → Vec3 → Type 0
    Leads P w = P (cap_of on_ground (min len MAX_SPEED)) (greatest_gain len ms) (part_along v x y len) (part_along w x y len)

    stops_below : ms ≤ 50 → pos 0 <ℤ missing → Leads StopsAtCap after
    unfolding missing gain
    stops_below brief lacks =
        stops_by _ _ gain _ _ (gain_is lacks) ((pushed_gains v after gain (pushed_is lacks)).most (added_most _ _ gain len root some (gain_is_short lacks brief)))

    reaches_below : 16 ≤ len → pos 0 <ℤ missing → Leads ReachesCap after
    unfolding missing gain
    reaches_below long lacks =
        reaches_by _ _ gain _ _ (gain_is lacks) ((pushed_gains v after gain (pushed_is lacks)).least (added_least _ _ gain len root long))

    acts_below : 1 ≤ ms → 256 ≤ len → pos 1 <ℤ missing → dot_of v x y <ℤ dot_of after x y
    acts_below least long lacks =
        let far : pos 0 <ℤ missing = omega (arith, ints) in
        let more : 2 * len ≤ gain * len = mul-le _ _ _ _ (gain_acts lacks least long) (omega arith) in
        let some_added : 0 < added (unsigned_abs x) (unsigned_abs y) gain len = omega (arith, added_least (unsigned_abs x) (unsigned_abs y) gain len root (omega arith)) in
        rw (pushed_dot v after gain (pushed_is far)) (omega (arith, ints))

    stops : ms ≤ 50 → Leads StopsAtCap (accelerated_toward v x y len ms on_ground)
    unfolding missing after
    stops brief =
        by_lt_z (pos 0) missing (stops_below brief)
        (λ none. subst (Leads StopsAtCap) (nothing_missing len v x y ms on_ground none) (stops_at _ _ _))

    reaches : 16 ≤ len → Leads ReachesCap (accelerated_toward v x y len ms on_ground)
    unfolding missing after
    reaches long =
        by_lt_z (pos 0) missing (reaches_below long)
        (λ none. subst (Leads ReachesCap) (nothing_missing len v x y ms on_ground none) (reached_at _ _ _ none))

    acts : 1 ≤ ms → 256 ≤ len → (part_along v x y len +ℤ pos 2) ≤ℤ pos (cap_of on_ground (min len MAX_SPEED)) → dot_of v x y <ℤ dot_of (accelerated_toward v x y len ms on_ground) x y
    unfolding missing after
    acts least long below = acts_below least long (omega (arith, ints))

-- ---- the laws
wish_is_long : (wish_x wish_y : ℤ) → 0 < wish_length wish_x wish_y → 256 ≤ wish_length wish_x wish_y
wish_is_long wish_x wish_y some =
    legs_are_long (unsigned_abs wish_x) (unsigned_abs wish_y) _ (rw (← unsigned_abs-mul wish_x UNIT, ← unsigned_abs-mul wish_y UNIT) (root_is_greatest _)) some

stops_along : (x y : ℤ) (len : ℕ) → IsRoot (unsigned_abs x * unsigned_abs x + unsigned_abs y * unsigned_abs y) len → (v : Vec3) (ms : ℕ) (on_ground : Bool) → ms ≤ 50 → StopsAtCap (cap_of on_ground (min len MAX_SPEED)) (greatest_gain len ms) (part_along v x y len) (part_along (accelerated_toward v x y len ms on_ground) x y len)
stops_along x y zero root v ms on_ground brief = stops_at _ _ _
stops_along x y (suc n) root v ms on_ground brief = stops x y (suc n) root (omega arith) v ms on_ground brief

pub acceleration_stops_at_the_cap : AccelerationStopsAtTheCap
acceleration_stops_at_the_cap v wish_x wish_y ms on_ground brief =
    stops_along (wish_x *ℤ UNIT) (wish_y *ℤ UNIT) (wish_length wish_x wish_y) (root_is_greatest _) v ms on_ground brief

pub acceleration_reaches_the_cap : AccelerationReachesTheCap
acceleration_reaches_the_cap v wish_x wish_y ms on_ground some =
    reaches (wish_x *ℤ UNIT) (wish_y *ℤ UNIT) (wish_length wish_x wish_y) (root_is_greatest _) some v ms on_ground (omega (arith, wish_is_long wish_x wish_y some))

pub acceleration_acts_below_the_cap : AccelerationActsBelowTheCap
acceleration_acts_below_the_cap v wish_x wish_y ms on_ground = record {
  rests = λ at_cap. sym (nothing_missing (wish_length wish_x wish_y) v (wish_x *ℤ UNIT) (wish_y *ℤ UNIT) ms on_ground (omega (arith, ints)));
  acts = λ least some below. acts (wish_x *ℤ UNIT) (wish_y *ℤ UNIT) (wish_length wish_x wish_y) (root_is_greatest _) some v ms on_ground least (wish_is_long wish_x wish_y some) below;
}
