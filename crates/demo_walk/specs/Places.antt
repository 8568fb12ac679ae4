-- The places of a map: spawns at which players can join at the same time, wherever its lifts are.
use Rattle.std.specs.Prelude.{ℕ, Bool, false, not, ◌&&◌, List, length, filter, take}
use Rattle.std.specs.List.{list_any, range_with_len, slice_get}
use Rattle.std.specs.Option.{option_map_or}
use Rattle.arena_geo.specs.declared.vec3.Vec3.{Vec3}
use Rattle.arena_geo.specs.Bounds.{Bounds}
use Rattle.arena_geo.specs.Boxes.{overlaps, overlaps_on, is_blocked}
use Rattle.entity_recs.specs.declared.rec.Rec.{Rec}
use Rattle.entity_recs.specs.Bodies.{body_of, player_body}
use Rattle.entity_recs.specs.Kinds.{is_solid}
use Rattle.arena_map.specs.Maps.{MapView, solids_of, entities_of}

-- the boxes overlap along x and along y
abbrev pub share_a_column : Bounds → Bounds → Bool
share_a_column one other =
    overlaps_on one.lo.x one.hi.x other.lo.x other.hi.x && overlaps_on one.lo.y one.hi.y other.lo.y other.hi.y

-- the thing is a lift that is at the body, or above or below it
abbrev pub is_by_lift : Bounds → Rec → Bool
is_by_lift body thing = is_solid thing.kind && share_a_column body (body_of thing)

-- no wall or block overlaps the body, and no lift is at it, above it or below it
abbrev pub is_open : MapView → Bounds → Bool
is_open m body = not (is_blocked body (solids_of m)) && not (list_any (is_by_lift body) (entities_of m))

-- a player at this spawn overlaps the body
abbrev pub is_by_spawn : Bounds → Vec3 → Bool
is_by_spawn body at = overlaps body (player_body at)

-- the spawn with this number is a place: a player there is in the open, and overlaps none at an earlier spawn
abbrev pub is_place : MapView → ℕ → Bool
is_place m i =
    option_map_or
    (λ (at : Vec3). is_open m (player_body at) && not (list_any (is_by_spawn (player_body at)) (take i m.spawns)))
    (slice_get m.spawns i)
    false

-- the numbers of the places among the spawns
abbrev pub places : MapView → List ℕ
places m = filter (is_place m) (range_with_len 0 (length m.spawns))

-- how many places there are
abbrev pub places_of : MapView → ℕ
places_of m = length (places m)
