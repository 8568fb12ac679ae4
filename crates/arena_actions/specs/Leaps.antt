-- The teleporters of a map as a move looks at them: where each of them is, and where it moves players.
use Rattle.std.specs.Prelude.{List, filter_map, Option, Some, None, if◌then◌else◌}
use Rattle.std.specs.Option.{option_map}
use Rattle.arena_geo.specs.Vectors.{IsNear}
use Rattle.arena_geo.specs.Bounds.{Bounds}
use Rattle.arena_geo.specs.Boxes.{touches}
use Rattle.entity_recs.specs.declared.rec.Rec.{Rec}
use Rattle.entity_recs.specs.Bodies.{abs_of}
use Rattle.arena_map.specs.Maps.{MapView, entities_of, dest_of}
use Rattle.arena_actions.specs.declared.leaps.Leap.{Leap}
use Rattle.arena_outcomes.specs.Regions.{landing_at}

-- the leap of a thing of the map, if it is a teleporter
abbrev pub leap_of : MapView → Rec → Option Leap
leap_of map thing = option_map (λ dest. record { from = abs_of thing; to = dest }) (dest_of map thing.id)

-- the leaps of a map, in the order of its things
abbrev pub leaps_of : MapView → List Leap
leaps_of map = filter_map (leap_of map) (entities_of map)

-- a leap ends near enough
abbrev pub IsNearLeap : Leap → Type 0
IsNearLeap leap = IsNear 1048576 leap.to

-- the room where a leap of the player ends, if its teleporter touches the reach
abbrev pub landing_by : Rec → Bounds → Leap → Option Bounds
landing_by me reach leap = if touches leap.from reach then Some (landing_at me leap.to) else None
