-- The tick of a frame, over records by id: items return, and then each lift makes its step.
use Rattle.std.specs.Prelude.{ℕ, List, fold, Option, Some, None}
use Rattle.entity_recs.specs.declared.rec.Rec.{Rec}
use Rattle.arena_map.specs.declared.lift.Lift.{Lift}
use Rattle.arena_map.specs.Maps.{MapView, entities_of, lift_of}
use Rattle.world_tree.specs.Live.{record_at}
use Rattle.world_physics.specs.Returns.{after_returns}
use Rattle.world_physics.specs.LiftSteps.{step_of, after_step}

-- the records after the step of the lift with these data and this record; where it has none, no step is made
abbrev pub after_lift : MapView → List (Option Rec) → Option Lift → Option Rec → List (Option Rec)
after_lift map records None place = records
after_lift map records (Some lift) None = records
after_lift map records (Some lift) (Some r) = after_step map (step_of lift r) records

-- the records after the step of a thing of the map, if it is a lift
abbrev pub after_thing : MapView → List (Option Rec) → Rec → List (Option Rec)
after_thing map records thing = after_lift map records (lift_of map thing.id) (record_at records thing.id)

-- the records after the steps of these things, one after another
abbrev pub after_things : MapView → List (Option Rec) → List Rec → List (Option Rec)
after_things map records things = fold (after_thing map) records things

-- the records after the tick of a frame: the items that are due return, and then each lift of the map, in rising id,
-- makes its whole step or none
-- Lifts are folded over all things of the map, in rising id as the code goes; a thing that isn't a lift has no data
-- and makes no step.
unfoldable pub after_tick : MapView → ℕ → List (Option Rec) → List (Option Rec)
after_tick map frame records = after_things map (after_returns frame records) (entities_of map)
