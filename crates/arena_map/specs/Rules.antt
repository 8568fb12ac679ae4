-- The rules of a map: the first that a line breaks, and the map with a line that breaks none.
use Rattle.std.specs.Prelude.{ℕ, ◌+◌, ◌==◌, Bool, true, not, ◌&&◌, nat_lt, List, [], ◌∷◌, ◌++◌, length, count_by, Option, Some, None}
use Rattle.std.specs.Prelude.{if◌then◌else◌}
use Rattle.std.specs.List.{list_any}
use Rattle.arena_geo.specs.declared.vec3.Vec3.{Vec3}
use Rattle.arena_geo.specs.Bounds.{Bounds, bounds}
use Rattle.arena_geo.specs.Boxes.{overlaps, is_blocked}
use Rattle.arena_map.specs.declared.limits.TheConstants.{MOST_BOXES, MOST_ITEMS, MOST_SPAWNS}
use Rattle.arena_map.specs.declared.map_fault.MapFault.{MapFault}
use Rattle.arena_map.specs.declared.map_fault.MapFault.TheVariants as fault
use Rattle.arena_map.specs.declared.map_line.MapLine.{MapLine}
use Rattle.arena_map.specs.declared.map_line.MapLine.TheVariants.{Arena, Block, Spawn, Item, Teleport, Goal, Lift, Depth, Shots, Blocks}
use Rattle.arena_map.specs.MapLines.{is_item_line, is_teleport_line, is_goal_line, is_lift_line}
use Rattle.arena_map.specs.Positions.{is_wide, shaft, keeps_box, keeps_stand, keeps_item, keeps_travel}
use Rattle.arena_map.specs.Maps.{MapView, plain_map, shafts_of}

-- ---- the arena

-- rule 1: the rule that the arena's line breaks
abbrev pub broken_by_arena : Vec3 → Vec3 → Option MapFault
broken_by_arena lo hi = if is_wide lo hi then None else Some fault.Arena

-- the rule that the line of an arena breaks
abbrev pub broken_at_first : MapLine → Option MapFault
broken_at_first (Arena lo hi) = broken_by_arena lo hi
broken_at_first _ = None

-- the map of an arena, with nothing in it
abbrev pub bare_map : Vec3 → Vec3 → MapView
bare_map lo hi = plain_map (bounds lo hi) [] [] []

-- the map that the line of an arena begins
abbrev pub begun_map : MapLine → Option MapView
begun_map (Arena lo hi) = Some (bare_map lo hi)
begun_map _ = None

-- ---- the other lines

-- rule 3: there is room for one more of the line's kind; for one that says how many blocks there may be, there is none
-- after a block
abbrev pub keeps_count : MapView → MapLine → Bool
keeps_count map (Arena lo hi) = true
keeps_count map (Block lo hi) = nat_lt (length map.blocks) map.most_blocks
keeps_count map (Spawn at) = nat_lt (length map.spawns) MOST_SPAWNS
keeps_count map (Item at kind delay) = nat_lt (count_by is_item_line map.things) MOST_ITEMS
keeps_count map (Teleport lo hi dest) = nat_lt (count_by is_teleport_line map.things) MOST_BOXES
keeps_count map (Goal lo hi) = nat_lt (count_by is_goal_line map.things) MOST_BOXES
keeps_count map (Lift lo hi rise speed) = nat_lt (count_by is_lift_line map.things) MOST_BOXES
keeps_count map (Depth depth) = map.depth_lines == 0
keeps_count map Shots = map.shots_lines == 0
keeps_count map (Blocks most) = map.limit_lines == 0 && length map.blocks == 0

-- the shaft of an earlier lift overlaps the box
abbrev pub meets_shaft : List Bounds → Bounds → Bool
meets_shaft shafts box = list_any (λ shaft. overlaps shaft box) shafts

-- rule 8: a block overlaps no earlier shaft, and a lift's shaft no earlier block and no earlier shaft
abbrev pub keeps_shafts : MapView → MapLine → Bool
keeps_shafts map (Block lo hi) = not (meets_shaft (shafts_of map) (bounds lo hi))
keeps_shafts map (Lift lo hi rise speed) =
    not (is_blocked (shaft lo hi rise) map.blocks) && not (meets_shaft (shafts_of map) (shaft lo hi rise))
keeps_shafts _ _ = true

-- the first rule that a line breaks, added to a map
-- The six tests in a row for every line, in the order of their numbers; rule 7 is left to the caller, who asks `ready`.
abbrev pub broken_rule : MapView → MapLine → Option MapFault
broken_rule map line =
    if not (keeps_box map.bounds line) then Some fault.Box
    else if not (keeps_count map line) then Some fault.Count
    else if not (keeps_stand map.bounds line) then Some fault.Stand
    else if not (keeps_item map.bounds line) then Some fault.Item
    else if not (keeps_travel map.bounds line) then Some fault.Travel
    else if not (keeps_shafts map line) then Some fault.Shaft
    else None

-- the map with one more of its parts
abbrev pub with_block : MapView → Bounds → MapView
with_block map block = record map { blocks = map.blocks ++ block ∷ [] }

abbrev pub with_spawn : MapView → Vec3 → MapView
with_spawn map at = record map { spawns = map.spawns ++ at ∷ [] }

abbrev pub with_thing : MapView → MapLine → MapView
with_thing map line = record map { things = map.things ++ line ∷ [] }

abbrev pub with_depth : MapView → ℕ → MapView
with_depth map depth = record map { depth = depth; depth_lines = map.depth_lines + 1 }

abbrev pub with_shots : MapView → MapView
with_shots map = record map { shots = true; shots_lines = map.shots_lines + 1 }

abbrev pub with_limit : MapView → ℕ → MapView
with_limit map most = record map {
  most_blocks = most;
  limit_lines = map.limit_lines + 1;
  early_blocks = map.early_blocks + length map.blocks;
}

-- the map with a line that breaks no rule
abbrev pub with_line : MapView → MapLine → MapView
with_line map (Arena lo hi) = map
with_line map (Block lo hi) = with_block map (bounds lo hi)
with_line map (Spawn at) = with_spawn map at
with_line map (Item at kind delay) = with_thing map (Item at kind delay)
with_line map (Teleport lo hi dest) = with_thing map (Teleport lo hi dest)
with_line map (Goal lo hi) = with_thing map (Goal lo hi)
with_line map (Lift lo hi rise speed) = with_thing map (Lift lo hi rise speed)
with_line map (Depth depth) = with_depth map depth
with_line map Shots = with_shots map
with_line map (Blocks most) = with_limit map most
