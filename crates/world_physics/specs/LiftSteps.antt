-- The step of a lift: how far it goes, whom it carries, what stops it, and the records by id after it.
use Rattle.std.specs.Prelude.{◌≡◌, ℕ, ◌≤◌, ◌==◌, Bool, true, false, not, ◌&&◌, ◌||◌, List, Option, Some, if◌then◌else◌}
use Rattle.std.specs.Prelude.{ℤ, pos, neg_ℤ, ◌+ℤ◌, ◌-ℤ◌, ◌≤ℤ◌, unsigned_abs}
use Rattle.std.specs.List.{list_any}
use Rattle.std.specs.Ordering.{int_eq}
use Rattle.std.specs.Int.{int_min, int_max}
use Rattle.arena_geo.specs.Vectors.{vector}
use Rattle.arena_geo.specs.Bounds.{Bounds}
use Rattle.arena_geo.specs.Boxes.{box_moved_by, overlaps, is_blocked}
use Rattle.entity_recs.specs.declared.rec.Rec.{Rec}
use Rattle.entity_recs.specs.Kinds.{is_solid, is_player}
use Rattle.entity_recs.specs.Records.{IsRecord}
use Rattle.entity_recs.specs.Bodies.{body_of}
use Rattle.arena_map.specs.declared.lift.Lift.{Lift}
use Rattle.arena_map.specs.Positions.{upwards}
use Rattle.arena_map.specs.Maps.{MapView, IsLift, solids_of}
use Rattle.world_tree.specs.Live.{record_at, live_in}
use Rattle.world_physics.specs.declared.lift_step.LiftStep.{LiftStep}
use Rattle.world_physics.specs.Returns.{each_changed}

-- ---- how far a lift goes

-- how high the lift is over its lowest place
abbrev pub height_of : Lift → Rec → ℤ
height_of lift r = r.origin.z -ℤ lift.low

-- how high it is after its step: up to its rise where it rises, down to 0 where it falls
abbrev pub next_height : Lift → Rec → ℤ
next_height lift r =
    if r.state == 0 then int_min (height_of lift r +ℤ lift.speed) lift.rise
    else int_max (height_of lift r -ℤ lift.speed) (pos 0)

-- its state after its step: from its rise on it falls, from 0 on it rises, and in between it goes on
abbrev pub next_state : Lift → Rec → ℕ
next_state lift r =
    if int_eq (next_height lift r) lift.rise then 1
    else if int_eq (next_height lift r) (pos 0) then 0
    else r.state

-- how far up the step is; below 0 where the lift falls
abbrev pub distance_up : Lift → Rec → ℤ
distance_up lift r = next_height lift r -ℤ height_of lift r

-- the record so far higher
abbrev pub record_raised_by : Rec → ℤ → Rec
record_raised_by r up = record r { origin = vector r.origin.x r.origin.y (r.origin.z +ℤ up) }

-- the lift's record after its step
abbrev pub lift_after : Lift → Rec → Rec
lift_after lift r = record (record_raised_by r (distance_up lift r)) { state = next_state lift r }

-- the step of the lift with this record: the record before and after it, and how far up it is
unfoldable pub step_of : Lift → Rec → LiftStep
step_of lift r = record { before = r; after = lift_after lift r; up = distance_up lift r }

-- the height of a lift over its lowest place is from 0 to its rise
pub record IsHeight (lift : Lift) (height : ℤ) : Type 0 where
  pub numbers : IsLift lift
  pub least : pos 0 ≤ℤ height
  pub most : height ≤ℤ lift.rise

-- the lift is on its way: between its lowest place and its highest
pub record IsOnItsWay (lift : Lift) (r : Rec) : Type 0 where
  pub numbers : IsLift lift
  pub low : lift.low ≤ℤ r.origin.z
  pub high : r.origin.z ≤ℤ (lift.low +ℤ lift.rise)

-- the records of a step are within their bounds, and it is at most 2,560 long
pub record IsStep (step : LiftStep) : Type 0 where
  pub before : IsRecord step.before
  pub after : IsRecord step.after
  pub far : unsigned_abs step.up ≤ 2560

-- ---- whom it carries, and what stops it

-- the player stands on the lift: its body, moved down by 1, overlaps the lift
abbrev pub stands_on : Rec → Rec → Bool
stands_on lift r = overlaps (box_moved_by (body_of r) (upwards (neg_ℤ (pos 1)))) (body_of lift)

-- the step carries the players that stand on the lift, and those whose bodies overlap the lift's new box
abbrev pub is_carried : LiftStep → Rec → Bool
is_carried step r = is_player r.kind && (stands_on step.before r || overlaps (body_of r) (body_of step.after))

-- the record is that of a solid that stays where it is: another lift, or a player that isn't carried
abbrev pub stays : LiftStep → Rec → Bool
stays step r = is_solid r.kind && not (r.id == step.before.id) && not (is_carried step r)

-- the record is that of a solid that stays where it is, and its body overlaps this one
abbrev pub is_in_the_way : LiftStep → Bounds → Rec → Bool
is_in_the_way step body r = stays step r && overlaps body (body_of r)

-- the body overlaps a wall, a block, the lift's new box, another lift, or a player that isn't carried
abbrev pub is_obstructed : MapView → LiftStep → List (Option Rec) → Bounds → Bool
is_obstructed map step records body =
    is_blocked body (solids_of map)
    || overlaps body (body_of step.after)
    || list_any (is_in_the_way step body) (live_in records)

-- the record is that of a carried player whose body, moved with the lift, has no room
abbrev pub is_pressed : MapView → LiftStep → List (Option Rec) → Rec → Bool
is_pressed map step records r =
    is_carried step r && is_obstructed map step records (box_moved_by (body_of r) (upwards step.up))

-- the step would press a player
unfoldable pub is_stopped : MapView → LiftStep → List (Option Rec) → Bool
is_stopped map step records = list_any (is_pressed map step records) (live_in records)

-- ---- the records after it

-- a player that is carried, with its z alone changed; the other records as they were
abbrev pub carried_along : LiftStep → Rec → Rec
carried_along step r = if is_carried step r then record_raised_by r step.up else r

-- a carried player in this slot stays within the bounds of records
pub record HasRoom (step : LiftStep) (records : List (Option Rec)) (slot : ℕ) : Type 0 where
  pub moved_is_record : (r : Rec) → record_at records slot ≡ Some r → is_carried step r ≡ true
      → IsRecord (record_raised_by r step.up)

-- a record after the step: the lift's, a carried player's, or as it was
abbrev pub moved_along : LiftStep → Rec → Rec
moved_along step r =
    if r.id == step.before.id then step.after else carried_along step r

-- the records by id after the step, which is done whole or, where it would press a player, not at all
unfoldable pub after_step : MapView → LiftStep → List (Option Rec) → List (Option Rec)
after_step map step records = if is_stopped map step records then records else each_changed (moved_along step) records
