-- The limits of the numbers of a map line, and what kinds of lines there are.
use Rattle.std.specs.Prelude.{◌≡◌, ⊤, ℕ, ◌≤◌, Bool, true, false, not, pos, ◌≤ℤ◌}
use Rattle.arena_geo.specs.Vectors.{IsNear}
use Rattle.areanode.specs.Trees.{IsTreeDepth}
use Rattle.entity_recs.specs.declared.kind.Kind.{Kind}
use Rattle.entity_recs.specs.declared.kind.Kind.TheVariants as kinds
use Rattle.entity_recs.specs.Kinds.{is_item}
use Rattle.arena_map.specs.declared.limits.TheConstants.{DEFAULT_BLOCKS, MOST_BLOCKS}
use Rattle.arena_map.specs.declared.map_line.MapLine.{MapLine}
use Rattle.arena_map.specs.declared.map_line.MapLine.TheVariants.{Arena, Block, Spawn, Item, Teleport, Goal, Lift, Depth, Shots, Blocks}

-- the kind is a teleporter's
abbrev pub is_teleporter : Kind → Bool
is_teleporter kinds.Teleporter = true
is_teleporter _ = false

-- the kind is a lift's
abbrev pub is_lift : Kind → Bool
is_lift kinds.Lift = true
is_lift _ = false

-- a line may allow so many blocks
pub record IsBlockLimit (blocks : ℕ) : Type 0 where
  pub least : DEFAULT_BLOCKS ≤ blocks
  pub most : blocks ≤ MOST_BLOCKS

-- the numbers of a line are within their limits, and an item's kind is one
abbrev pub IsWithinLimits : MapLine → Type 0
IsWithinLimits (Arena lo hi) = IsNear 1048576 lo × IsNear 1048576 hi
IsWithinLimits (Block lo hi) = IsNear 1048576 lo × IsNear 1048576 hi
IsWithinLimits (Spawn at) = IsNear 1048576 at
IsWithinLimits (Item at kind delay) = IsNear 1048576 at × (is_item kind ≡ true) × (1 ≤ delay) × (delay ≤ 65535)
IsWithinLimits (Teleport lo hi dest) = IsNear 1048576 lo × IsNear 1048576 hi × IsNear 1048576 dest
IsWithinLimits (Goal lo hi) = IsNear 1048576 lo × IsNear 1048576 hi
IsWithinLimits (Lift lo hi rise speed) =
    IsNear 1048576 lo × IsNear 1048576 hi × (pos 1 ≤ℤ rise) × (rise ≤ℤ pos 1048576) × (pos 1 ≤ℤ speed)
    × (speed ≤ℤ pos 2560)
IsWithinLimits (Depth depth) = IsTreeDepth depth
IsWithinLimits Shots = ⊤
IsWithinLimits (Blocks most) = IsBlockLimit most

-- the line is that of the arena, with which a map begins
abbrev pub is_arena : MapLine → Bool
is_arena (Arena lo hi) = true
is_arena _ = false

-- the line is one that is added to a map that has begun: any but that of the arena
abbrev pub is_added : MapLine → Bool
is_added line = not (is_arena line)

-- the line is an item's
abbrev pub is_item_line : MapLine → Bool
is_item_line (Item at kind delay) = true
is_item_line _ = false

-- the line is a teleporter's
abbrev pub is_teleport_line : MapLine → Bool
is_teleport_line (Teleport lo hi dest) = true
is_teleport_line _ = false

-- the line is a goal's
abbrev pub is_goal_line : MapLine → Bool
is_goal_line (Goal lo hi) = true
is_goal_line _ = false

-- the line is a lift's
abbrev pub is_lift_line : MapLine → Bool
is_lift_line (Lift lo hi rise speed) = true
is_lift_line _ = false

-- the line gives a thing: an item, a teleporter, a goal or a lift
abbrev pub is_thing_line : MapLine → Bool
is_thing_line (Arena lo hi) = false
is_thing_line (Block lo hi) = false
is_thing_line (Spawn at) = false
is_thing_line (Depth depth) = false
is_thing_line Shots = false
is_thing_line (Blocks most) = false
is_thing_line _ = true
