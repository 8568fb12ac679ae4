-- The edges between the spawns of a map, which are its waypoints, numbered from 0 in line order.
use Rattle.std.specs.Prelude.{ℕ, max, Bool, not, ◌&&◌, nat_lt, nat_le, if◌then◌else◌, List, ◌-ℤ◌, unsigned_abs}
use Rattle.std.specs.Prelude.{Option, Some, None, option_and_then, slice_get}
use Rattle.std.specs.Ordering.{int_eq}
use Rattle.arena_geo.specs.declared.vec3.Vec3.{Vec3}
use Rattle.arena_geo.specs.Vectors.{minus}
use Rattle.arena_geo.specs.Bounds.{Bounds}
use Rattle.arena_geo.specs.Boxes.{is_blocked}
use Rattle.box_trace.specs.Traces.{trace_of}
use Rattle.entity_recs.specs.Bodies.{player_body}
use Rattle.arena_map.specs.Maps.{MapView, solids_of}

-- how far two points are from each other on x or y, whichever is farther
abbrev pub distance : Vec3 → Vec3 → ℕ
distance a b = max (unsigned_abs (b.x -ℤ a.x)) (unsigned_abs (b.y -ℤ a.y))

-- the points have one height, are apart, and at most 65,536 from each other on each axis
abbrev pub are_near : Vec3 → Vec3 → Bool
are_near a b = int_eq a.z b.z && nat_lt 0 (distance a b) && nat_le (distance a b) 65536

-- no solid overlaps a player's body at the first point, or at a step of its trace to the second
abbrev pub is_free : List Bounds → Vec3 → Vec3 → Bool
is_free solids a b =
    not (is_blocked (player_body a) solids) && (trace_of (player_body a) (minus b a) solids).whole

-- the length of the edge from the first point to the second, none where there is none
abbrev pub edge_between : List Bounds → Vec3 → Vec3 → Option ℕ
edge_between solids a b = if are_near a b && is_free solids a b then Some (distance a b) else None

-- the length of the edge from one waypoint to another, none where there is none
abbrev pub edge : MapView → ℕ → ℕ → Option ℕ
edge map u v =
    option_and_then (λ a. option_and_then (edge_between (solids_of map) a) (slice_get map.spawns v))
    (slice_get map.spawns u)
