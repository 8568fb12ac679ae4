-- What stops a step, as the code looks for it.
use Rattle.std.specs.Prelude.{◌≡◌, ℕ, ◌≤◌, Bool, false, true, ◌&&◌, List, Option, Some}
use Rattle.std.specs.Option.{option_map_or}
use Rattle.std.proofs.Common.{refl, sym, ap, ◌∙◌, arith}
use Rattle.arena_geo.specs.Bounds.{Bounds}
use Rattle.arena_geo.specs.Boxes.{box_moved_by}
use Rattle.entity_recs.specs.declared.rec.Rec.{Rec}
use Rattle.entity_recs.specs.Bodies.{body_of}
use Rattle.arena_map.specs.Positions.{upwards}
use Rattle.arena_map.specs.Maps.{MapView}
use Rattle.world_tree.specs.Live.{record_at}
use Rattle.world_tree.specs.Worlds.{WorldView, IsLinked}
use Rattle.world_physics.specs.declared.lift_step.LiftStep.{LiftStep}
use Rattle.world_physics.specs.LiftSteps.{is_carried, is_obstructed, is_pressed, is_stopped}
use Rattle.world_physics.proofs.Changes.{is_entry}
use Rattle.world_physics.proofs.Finding.{IsNoneBelow, found_here, none_at_last, not_carried_past}

-- past the slots nobody is pressed
not_pressed_past : (map : MapView) (step : LiftStep) (w : WorldView) (id : ℕ) (r : Rec) → IsLinked w → 64 ≤ id → record_at w.records id ≡ Some r → is_pressed map step w.records r ≡ false
not_pressed_past map step w id r linked past at =
    let none : is_carried step r ≡ false = not_carried_past step id r (is_entry w id r linked at) past in
    rw none refl

-- where nobody in the slots is pressed, the step isn't stopped
pub not_stopped : (map : MapView) (step : LiftStep) (w : WorldView) (slot : ℕ) → IsLinked w → 64 ≤ slot → IsNoneBelow (is_pressed map step w.records) slot w.records
    → false ≡ is_stopped map step w.records
unfolding is_stopped
not_stopped map step w slot linked past is =
    sym (none_at_last (is_pressed map step w.records) slot w.records is (λ k r later at. not_pressed_past map step w k r linked (omega (arith, later, past)) at))

-- and where one is, it is stopped
pub stopped : (map : MapView) (step : LiftStep) (records : List (Option Rec)) (slot : ℕ) (place : Option Rec) → place ≡ record_at records slot
    → option_map_or (is_pressed map step records) place false ≡ true → true ≡ is_stopped map step records
unfolding is_stopped
stopped map step records slot place is passes = sym (found_here (is_pressed map step records) records slot place is passes)

-- the test of a carried player's body, moved with the lift, is that of its record
pub pressed-is : (map : MapView) (step : LiftStep) (records : List (Option Rec)) (place : Option Rec) (r : Rec) (body : Bounds) (result : Bool) → place ≡ Some r → is_carried step r ≡ true
    → body ≡ box_moved_by (body_of r) (upwards step.up) → result ≡ is_obstructed map step records body → result ≡ option_map_or (is_pressed map step records) place false
pressed-is map step records place r body result is carried body_is result_is =
    result_is
    ∙ ap (is_obstructed map step records) body_is
    ∙ sym (ap (λ b. b && is_obstructed map step records (box_moved_by (body_of r) (upwards step.up))) carried)
    ∙ sym (ap (λ o. option_map_or (is_pressed map step records) o false) is)
