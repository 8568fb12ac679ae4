-- The line of a thing, from its record and its data.
use Rattle.std.specs.Prelude.{ℕ, Option, Some, None}
use Rattle.arena_geo.specs.declared.vec3.Vec3.{Vec3}
use Rattle.entity_recs.specs.declared.rec.Rec.{Rec}
use Rattle.entity_recs.specs.Bodies.{body_of}
use Rattle.arena_map.specs.declared.lift.Lift as lifts
use Rattle.arena_map.specs.declared.map_line.MapLine.{MapLine}
use Rattle.arena_map.specs.declared.map_line.MapLine.TheVariants.{Item, Teleport, Goal, Lift}

-- what has a delay is an item, what has a destination a teleporter, what has the data of a lift one, and else it is a goal
abbrev pub thing_line : Rec → Option ℕ → Option Vec3 → Option lifts.Lift → MapLine
thing_line thing (Some delay) dest lift = Item thing.origin thing.kind delay
thing_line thing None (Some dest) lift = Teleport (body_of thing).lo (body_of thing).hi dest
thing_line thing None None (Some lift) = Lift (body_of thing).lo (body_of thing).hi lift.rise lift.speed
thing_line thing None None None = Goal (body_of thing).lo (body_of thing).hi
