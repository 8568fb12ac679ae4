-- The rules of a map as what the whole map keeps, and the first of them that it breaks.
use Rattle.std.specs.Prelude.{◌≡◌, ⊤, ◌<◌, ◌≤◌, Bool, true, false, length, count_by, All, AllPairs}
use Rattle.arena_geo.specs.Bounds.{Bounds}
use Rattle.arena_geo.specs.Boxes.{overlaps, is_blocked}
use Rattle.arena_map.specs.declared.limits.TheConstants.{MOST_BOXES, MOST_ITEMS, MOST_SPAWNS}
use Rattle.arena_map.specs.declared.map_fault.MapFault.{MapFault}
use Rattle.arena_map.specs.declared.map_fault.MapFault.TheVariants as fault
use Rattle.arena_map.specs.declared.map_line.MapLine.{MapLine}
use Rattle.arena_map.specs.Faults.{number_of}
use Rattle.arena_map.specs.MapLines.{is_item_line, is_teleport_line, is_goal_line, is_lift_line}
use Rattle.arena_map.specs.Positions.{is_wide, is_box_inside, is_player_inside, keeps_box, keeps_stand, keeps_item}
use Rattle.arena_map.specs.Positions.{keeps_travel}
use Rattle.arena_map.specs.Maps.{MapView, shafts_of}

-- the line of each thing passes this test in the arena
abbrev pub AllThings : (Bounds → MapLine → Bool) → MapView → Type 0
AllThings test map = All (λ line. test map.bounds line ≡ true) map.things

-- the map has no more of each kind than it may, at most one line of each setting, and no block before the line that says
-- how many there may be
pub record HasFew (map : MapView) : Type 0 where
  pub blocks : length map.blocks ≤ map.most_blocks
  pub spawns : length map.spawns ≤ MOST_SPAWNS
  pub items : count_by is_item_line map.things ≤ MOST_ITEMS
  pub teleporters : count_by is_teleport_line map.things ≤ MOST_BOXES
  pub goals : count_by is_goal_line map.things ≤ MOST_BOXES
  pub lifts : count_by is_lift_line map.things ≤ MOST_BOXES
  pub depth_lines : map.depth_lines ≤ 1
  pub shots_lines : map.shots_lines ≤ 1
  pub limit_lines : map.limit_lines ≤ 1
  pub early_blocks : map.early_blocks ≡ 0

-- no lift's shaft overlaps a block or another shaft
pub record HasClearShafts (map : MapView) : Type 0 where
  pub clear : All (λ shaft. is_blocked shaft map.blocks ≡ false) (shafts_of map)
  pub apart : AllPairs (λ one other. overlaps one other ≡ false) (shafts_of map)

-- the map keeps this rule; that there is a spawn is asked of a frame, and of no line
abbrev pub KeepsRule : MapView → MapFault → Type 0
KeepsRule map fault.Arena = is_wide map.bounds.lo map.bounds.hi ≡ true
KeepsRule map fault.Box =
    All (λ block. is_box_inside map.bounds block.lo block.hi ≡ true) map.blocks × AllThings keeps_box map
KeepsRule map fault.Count = HasFew map
KeepsRule map fault.Stand =
    All (λ at. is_player_inside map.bounds at ≡ true) map.spawns × AllThings keeps_stand map
KeepsRule map fault.Item = AllThings keeps_item map
KeepsRule map fault.Travel = AllThings keeps_travel map
KeepsRule map fault.NoSpawn = ⊤
KeepsRule map fault.Shaft = HasClearShafts map

-- the map breaks this rule, and keeps each one before it
pub record IsFirstBroken (map : MapView) (rule : MapFault) : Type 0 where
  pub broken : KeepsRule map rule → ⊥
  pub earlier : (other : MapFault) → number_of other < number_of rule → KeepsRule map other
