-- Where a move may read and write: its region.
use Rattle.std.specs.Prelude.{ℕ, ◌+◌, List, ◌∷◌, filter_map, Option, None, pos, if◌then◌else◌}
use Rattle.std.specs.Option.{option_map}
use Rattle.arena_geo.specs.declared.vec3.Vec3.{Vec3}
use Rattle.arena_geo.specs.Vectors.{vector}
use Rattle.arena_geo.specs.Bounds.{Bounds}
use Rattle.arena_geo.specs.Boxes.{touches, box_grown_by}
use Rattle.entity_recs.specs.declared.rec.Rec.{Rec}
use Rattle.entity_recs.specs.Bodies.{abs_of}
use Rattle.entity_recs.specs.Commands.{Command}
use Rattle.player_move.specs.Laws.{reach_on}
use Rattle.arena_map.specs.Maps.{MapView, entities_of, dest_of}
use Rattle.arena_outcomes.specs.declared.sizes.TheConstants.{ROOM, SHOT_ROOM}

-- by how much the reach is larger than the absolute box: how far the move goes on each axis, with 256 to spare, and on
-- z the height of a stair more
abbrev pub reach_growth : Rec → ℕ → Vec3
reach_growth me ms =
    vector (pos (reach_on me.vel.x ms + 256)) (pos (reach_on me.vel.y ms + 256)) (pos (reach_on me.vel.z ms + 4864))

-- the reach of a move: where the player's absolute box may come without a leap
abbrev pub reach_of : Rec → ℕ → Bounds
reach_of me ms = box_grown_by (abs_of me) (reach_growth me ms)

-- so much on each axis
abbrev pub room_of : ℕ → Vec3
room_of room = vector (pos room) (pos room) (pos room)

-- the reach with so much room around it
abbrev pub first_box : ℕ → Rec → ℕ → Bounds
first_box room me ms = box_grown_by (reach_of me ms) (room_of room)

-- the player at another place
abbrev pub elsewhere : Rec → Vec3 → Rec
elsewhere me origin = record me { origin = origin }

-- the room around the player's absolute box at this place
abbrev pub landing_at : Rec → Vec3 → Bounds
landing_at me dest = box_grown_by (abs_of (elsewhere me dest)) (room_of ROOM)

-- the room at the destination of a thing of the map, if it is a teleporter whose absolute box touches the reach
abbrev pub landing_of : MapView → Rec → Bounds → Rec → Option Bounds
landing_of map me reach thing =
    if touches (abs_of thing) reach then option_map (landing_at me) (dest_of map thing.id) else None

-- the reach with so much room around it, and the room at the destination of each teleporter that touches the reach, in
-- rising id
unfoldable pub region_with : ℕ → MapView → Rec → Command → List Bounds
region_with room map me c =
    first_box room me c.ms ∷ filter_map (landing_of map me (reach_of me c.ms)) (entities_of map)

-- the region of a move: there is room for what it takes
abbrev pub region_in : MapView → Rec → Command → List Bounds
region_in map = region_with ROOM map

-- the region of a move that may shoot: there is room for a shot, and for whom it hits
abbrev pub shot_region : MapView → Rec → Command → List Bounds
shot_region map = region_with SHOT_ROOM map

-- the region of a move on a map, as the map decides
abbrev pub region_on : MapView → Rec → Command → List Bounds
region_on map = if map.shots then shot_region map else region_in map
