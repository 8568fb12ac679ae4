-- How far a lift goes in a step.
use Rattle.std.proofs.Common.{◌≡◌, ℕ, ◌≤◌, ◌==◌, ap, ◌∙◌, Bool, true, false, cond, ℤ, pos, ◌+ℤ◌, ◌-ℤ◌, unsigned_abs, SFits, w32, arith}
use Rattle.std.proofs.lemmas.Int.{ints, clamps}
use Rattle.std.specs.Int.{int_min, int_max}
use Rattle.entity_recs.specs.declared.rec.Rec.{Rec}
use Rattle.arena_map.specs.declared.lift.Lift.{Lift}
use Rattle.world_physics.specs.LiftSteps.{height_of, next_height, next_state, distance_up, record_raised_by, step_of, IsHeight, IsOnItsWay}
use Rattle.world_physics.specs.declared.lift_step.LiftStep.{LiftStep}

-- a lift on its way has a height
pub way_is_height : (lift : Lift) (r : Rec) → IsOnItsWay lift r → IsHeight lift (height_of lift r)
way_is_height lift r way = let low = way.low in let high = way.high in record { numbers = way.numbers; least = omega (arith, ints, low); most = omega (arith, ints, high) }

-- a height, and how far it is from another one
pub record IsNext (lift : Lift) (height next : ℤ) : Type 0 where
  pub is : IsHeight lift next
  pub far : unsigned_abs (next -ℤ height) ≤ 2560

risen : (lift : Lift) (height : ℤ) → IsHeight lift height → IsNext lift height (int_min (height +ℤ lift.speed) lift.rise)
risen lift height is =
    let n = is.numbers in
    record {
      is = record { numbers = n; least = omega (arith, ints, clamps); most = omega (arith, ints, clamps) };
      far = omega (arith, ints, clamps);
    }

fallen : (lift : Lift) (height : ℤ) → IsHeight lift height → IsNext lift height (int_max (height -ℤ lift.speed) (pos 0))
fallen lift height is =
    let n = is.numbers in
    record {
      is = record { numbers = n; least = omega (arith, ints, clamps); most = omega (arith, ints, clamps) };
      far = omega (arith, ints, clamps);
    }

either : (lift : Lift) (height : ℤ) (b : Bool) → IsHeight lift height
    → IsNext lift height (cond b (int_min (height +ℤ lift.speed) lift.rise) (int_max (height -ℤ lift.speed) (pos 0)))
either lift height true is = risen lift height is
either lift height false is = fallen lift height is

-- after a step a lift has a height, at most 2,560 from the one before
pub next_is : (lift : Lift) (r : Rec) → IsOnItsWay lift r → IsNext lift (height_of lift r) (next_height lift r)
next_is lift r way = either lift (height_of lift r) (r.state == 0) (way_is_height lift r way)

-- a near number is as it is when it is kept in 32 bits
pub near_fits : (x : ℤ) → unsigned_abs x ≤ 1073741824 → SFits w32 x
near_fits x near = omega (arith, ints)

-- how far up a step is fits, and so does where it leads
pub record Fit (lift : Lift) (r : Rec) : Type 0 where
  pub up : SFits w32 (distance_up lift r)
  pub place : SFits w32 (r.origin.z +ℤ distance_up lift r)

place_fits : (lift : Lift) (r : Rec) (up : ℤ) → IsOnItsWay lift r → unsigned_abs up ≤ 2560 → SFits w32 (r.origin.z +ℤ up)
place_fits lift r up way far = let n = way.numbers in omega (arith, ints)

pub way_fits : (lift : Lift) (r : Rec) → IsOnItsWay lift r → Fit lift r
way_fits lift r way =
    let far = (next_is lift r way).far in
    record { up = omega (arith, ints, far); place = place_fits lift r (distance_up lift r) way far }

-- the step, from its parts
pub step-is : (lift : Lift) (r after : Rec) (up kept : ℤ) (state : ℕ) → kept ≡ up → up ≡ distance_up lift r → after ≡ record_raised_by r kept → state ≡ next_state lift r
    → ◌≡◌ {A = LiftStep} (record { before = r; after = record after { state = state }; up = kept }) (step_of lift r)
unfolding step_of
step-is lift r after up kept state kept_is up_is after_is state_is =
    let at = kept_is ∙ up_is in
    let there = after_is ∙ ap (record_raised_by r) at in
    λ i. record { before = r; after = record (there i) { state = state_is i }; up = at i }
