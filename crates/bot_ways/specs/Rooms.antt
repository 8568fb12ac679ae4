-- How many bytes are room enough for what is written of a plan.
use Rattle.std.specs.Prelude.{ℕ, ◌+◌, ◌*◌, List, length, count_by}
use Rattle.arena_map.specs.Maps.{MapView}
use Rattle.arena_map.specs.MapLines.{is_item_line, is_teleport_line, is_goal_line, is_lift_line}
use Rattle.bot_ways.specs.declared.plan.Plan.{Plan}
use Rattle.bot_ways.specs.Moves.{waypoint_points, frames_through}

-- how many moves a bot makes along a way
abbrev pub moves_on : MapView → List ℕ → ℕ
moves_on m way = length (frames_through 1 (waypoint_points m way))

-- for the lines of things: 43 bytes for each item, 90 for each teleporter, 59 for each goal and 72 for each lift
abbrev pub room_of_things : MapView → ℕ
room_of_things m =
    43 * count_by is_item_line m.things + 90 * count_by is_teleport_line m.things
    + 59 * count_by is_goal_line m.things + 72 * count_by is_lift_line m.things

-- for those of a map: 60 for the arena, 8 for the depth, 6 for shots, 12 for how many blocks there may be, 60 for each block,
-- 33 for each spawn, and its things
abbrev pub room_of_map : MapView → ℕ
room_of_map m = 86 + 60 * length m.blocks + 33 * length m.spawns + room_of_things m

-- for the recording of a walk: its map, 18 for the join, 38 for each move, and 4 for the end
abbrev pub room_of_walk : MapView → List ℕ → ℕ
room_of_walk m way = room_of_map m + 22 + 38 * moves_on m way

-- for the line of least lengths: 6, and 8 for each waypoint
abbrev pub room_of_least : MapView → ℕ
room_of_least m = 6 + 8 * length m.spawns

-- for a plan: its recording, 4 and 3 for each waypoint of the way, 15 for the length, and the least lengths
abbrev pub room_of_plan : MapView → Plan → ℕ
room_of_plan m plan = room_of_walk m plan.way + 4 + 3 * length plan.way + 15 + room_of_least m
