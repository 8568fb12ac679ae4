-- A map as contracts see it: its bounds, its blocks, its spawns, the lines of its things, each in line order, and its
-- settings.
use Rattle.std.specs.Prelude.{◌≡◌, ℕ, ◌-◌, ◌≤◌, ◌==◌, Bool, true, false, List, ◌++◌, length, Option, None}
use Rattle.std.specs.Prelude.{option_and_then, All, AllPairs, count_by, filter_map, pos, ◌+ℤ◌, ◌≤ℤ◌, nat_lt, nat_le, unsigned_abs}
use Rattle.std.specs.Prelude.{slice_get, drop, cond, if◌then◌else◌}
use Rattle.std.specs.List.{find}
use Rattle.std.specs.Option.{option_map_or}
use Rattle.arena_geo.specs.declared.vec3.Vec3.{Vec3}
use Rattle.arena_geo.specs.Vectors.{IsNear}
use Rattle.arena_geo.specs.Bounds.{Bounds, IsBox}
use Rattle.arena_geo.specs.Boxes.{contains, overlaps, is_blocked}
use Rattle.areanode.specs.Trees.{IsTreeDepth}
use Rattle.box_trace.specs.Walls.{walls_of}
use Rattle.entity_recs.specs.declared.kind.Kind.{Kind}
use Rattle.entity_recs.specs.declared.rec.Rec.{Rec}
use Rattle.arena_map.specs.declared.limits.TheConstants.{DEFAULT_BLOCKS, DEFAULT_DEPTH, MOST_BOXES, MOST_ITEMS}
use Rattle.arena_map.specs.declared.limits.TheConstants.{MOST_SPAWNS}
use Rattle.arena_map.specs.declared.settings.Settings.{Settings}
use Rattle.arena_map.specs.declared.lift.Lift.{Lift}
use Rattle.arena_map.specs.declared.map_line.MapLine.{MapLine}
use Rattle.arena_map.specs.MapLines.{IsWithinLimits, IsBlockLimit, is_thing_line, is_item_line, is_teleport_line, is_goal_line}
use Rattle.arena_map.specs.MapLines.{is_lift_line}
use Rattle.arena_map.specs.Positions.{is_wide, is_thick, is_player_inside, shaft_of, keeps_box, keeps_stand, keeps_item}
use Rattle.arena_map.specs.Positions.{keeps_travel}
use Rattle.arena_map.specs.Things.{records_from, dest_in, delay_in, lift_data}

-- the arena, the blocks, the spawns, and the lines of items, teleporters, goals and lifts; how deep the tree of areanodes
-- is and how many lines name that; whether players can shoot and how many lines say so; how many blocks there may be, how
-- many lines say that, and how many blocks come before such a line
-- Things are their lines: records, ids and data are computed from them, so an id is 64 plus the place by definition.
-- The lines of the settings are counted, so that a second one breaks rule 3 like any other line too many, and so does one
-- on blocks that comes after a block.
pub record MapView : Type 0 where
  pub bounds : Bounds
  pub blocks : List Bounds
  pub spawns : List Vec3
  pub things : List MapLine
  pub depth : ℕ
  pub depth_lines : ℕ
  pub shots : Bool
  pub shots_lines : ℕ
  pub most_blocks : ℕ
  pub limit_lines : ℕ
  pub early_blocks : ℕ

-- the map with these parts and settings
abbrev pub map_of : Bounds → List Bounds → List Vec3 → List MapLine → Settings → MapView
map_of bounds blocks spawns things settings = record {
  bounds = bounds;
  blocks = blocks;
  spawns = spawns;
  things = things;
  depth = settings.depth;
  depth_lines = cond settings.names_depth 1 0;
  shots = settings.shots;
  shots_lines = cond settings.shots 1 0;
  most_blocks = settings.most_blocks;
  limit_lines = cond settings.names_blocks 1 0;
  early_blocks = 0;
}

-- the settings of a map whose lines say nothing of them
abbrev pub no_settings : Settings
no_settings = record {
  depth = DEFAULT_DEPTH;
  names_depth = false;
  shots = false;
  most_blocks = DEFAULT_BLOCKS;
  names_blocks = false;
}

-- the map with these parts, where no line names a depth, lets players shoot or says how many blocks there may be
abbrev pub plain_map : Bounds → List Bounds → List Vec3 → List MapLine → MapView
plain_map bounds blocks spawns things = map_of bounds blocks spawns things no_settings

-- ---- what a map gives

-- the solids of a map: the six walls, and then the blocks in line order
abbrev pub solids_of : MapView → List Bounds
solids_of map = walls_of map.bounds ++ map.blocks

-- there is a spawn
abbrev pub is_ready : MapView → Bool
is_ready map = nat_lt 0 (length map.spawns)

-- the things of the map at the start, by id from 64 in line order
abbrev pub entities_of : MapView → List Rec
entities_of map = records_from 64 map.things

-- the line of the thing with this id
abbrev pub thing_of : MapView → ℕ → Option MapLine
thing_of map id = if nat_le 64 id then slice_get map.things (id - 64) else None

-- where a teleporter moves players
abbrev pub dest_of : MapView → ℕ → Option Vec3
dest_of map id = option_and_then dest_in (thing_of map id)

-- how many frames an item stays away
abbrev pub delay_of : MapView → ℕ → Option ℕ
delay_of map id = option_and_then delay_in (thing_of map id)

-- the data of a lift
abbrev pub lift_of : MapView → ℕ → Option Lift
lift_of map id = option_and_then lift_data (thing_of map id)

-- the map has a thing with this id, and its kind passes the test
abbrev pub has_thing : (Kind → Bool) → MapView → ℕ → Bool
has_thing passes map id =
    option_map_or (λ (thing : Rec). passes thing.kind) (find (λ (thing : Rec). thing.id == id) (entities_of map)) false

-- the shafts of the lifts, in line order
abbrev pub shafts_of : MapView → List Bounds
shafts_of map = filter_map shaft_of map.things

-- ---- what a map keeps

-- the spawn is near enough, and a player there is inside the arena
pub record IsSpawn (arena : Bounds) (at : Vec3) : Type 0 where
  pub near : IsNear 1048576 at
  pub inside : is_player_inside arena at ≡ true

-- the block is a box whose low corner is below its high one on each axis, and it is inside the arena
pub record IsBlock (arena : Bounds) (block : Bounds) : Type 0 where
  pub is_box : IsBox block
  pub thick : is_thick block.lo block.hi ≡ true
  pub inside : contains arena block ≡ true

-- the line gives a thing, its numbers are within their limits, and it keeps the rules on places
pub record IsThingInside (arena : Bounds) (line : MapLine) : Type 0 where
  pub thing : is_thing_line line ≡ true
  pub limits : IsWithinLimits line
  pub inside : keeps_box arena line ≡ true
  pub stand : keeps_stand arena line ≡ true
  pub item : keeps_item arena line ≡ true
  pub travel : keeps_travel arena line ≡ true

-- the data of a lift: its lowest and its highest place are near enough, it rises, and it moves at most 2,560 in a frame
pub record IsLift (lift : Lift) : Type 0 where
  pub low : unsigned_abs lift.low ≤ 1048576
  pub high : unsigned_abs (lift.low +ℤ lift.rise) ≤ 1048576
  pub least_rise : pos 1 ≤ℤ lift.rise
  pub most_rise : lift.rise ≤ℤ pos 1048576
  pub least_speed : pos 1 ≤ℤ lift.speed
  pub most_speed : lift.speed ≤ℤ pos 2560

-- the delay of an item, in frames
pub record IsDelay (frames : ℕ) : Type 0 where
  pub least : 1 ≤ frames
  pub most : frames ≤ 65535

-- a map may have so many blocks, so many lines say that, and so many blocks come before such a line: a line may allow so
-- many, at most one line says it, and before all blocks, and where none says it, it is as without such a line
pub record IsLimit (most lines early : ℕ) : Type 0 where
  pub range : IsBlockLimit most
  pub few_lines : lines ≤ 1
  pub default : lines ≡ 0 → most ≡ DEFAULT_BLOCKS
  pub first : early ≡ 0

-- the map keeps the rules
pub record IsMap (map : MapView) : Type 0 where
  pub is_box : IsBox map.bounds
  pub lo : IsNear 1048576 map.bounds.lo
  pub hi : IsNear 1048576 map.bounds.hi
  pub wide : is_wide map.bounds.lo map.bounds.hi ≡ true
  pub blocks : All (IsBlock map.bounds) map.blocks
  pub few_blocks : length map.blocks ≤ map.most_blocks
  pub spawns : All (IsSpawn map.bounds) map.spawns
  pub few_spawns : length map.spawns ≤ MOST_SPAWNS
  pub things : All (IsThingInside map.bounds) map.things
  pub few_items : count_by is_item_line map.things ≤ MOST_ITEMS
  pub few_teleporters : count_by is_teleport_line map.things ≤ MOST_BOXES
  pub few_goals : count_by is_goal_line map.things ≤ MOST_BOXES
  pub few_lifts : count_by is_lift_line map.things ≤ MOST_BOXES
  pub clear_shafts : All (λ shaft. is_blocked shaft map.blocks ≡ false) (shafts_of map)
  pub shafts_apart : AllPairs (λ one other. overlaps one other ≡ false) (shafts_of map)
  pub depth : IsTreeDepth map.depth
  pub few_depth_lines : map.depth_lines ≤ 1
  pub default_depth : map.depth_lines ≡ 0 → map.depth ≡ DEFAULT_DEPTH
  pub shots_line : map.shots_lines ≡ cond map.shots 1 0
  pub limit : IsLimit map.most_blocks map.limit_lines map.early_blocks

-- a map is kept as its bounds, its solids, its spawns, the lines of its things, the records that these give, the shafts of
-- its lifts, and its settings: the blocks are the solids after the six walls
pub record IsKept (bounds : Bounds) (solids : List Bounds) (spawns : List Vec3) (things : List MapLine)
    (entities : List Rec) (shafts : List Bounds) (settings : Settings) : Type 0 where
  pub solids_are : solids ≡ solids_of (map_of bounds (drop 6 solids) spawns things settings)
  pub entities_are : entities ≡ records_from 64 things
  pub shafts_are : shafts ≡ filter_map shaft_of things
  pub is_map : IsMap (map_of bounds (drop 6 solids) spawns things settings)
