-- Where the things of a line may be, and the shafts of lifts.
use Rattle.std.specs.Prelude.{Bool, true, ◌&&◌, ℤ, pos, ◌-ℤ◌, int_lt, int_le, Option, Some, None}
use Rattle.arena_geo.specs.declared.vec3.Vec3.{Vec3}
use Rattle.arena_geo.specs.Vectors.{vector, plus}
use Rattle.arena_geo.specs.Bounds.{Bounds, bounds}
use Rattle.arena_geo.specs.Boxes.{contains, box_moved_by}
use Rattle.entity_recs.specs.declared.bodies.TheConstants.{ITEM_MINS, ITEM_MAXS}
use Rattle.entity_recs.specs.Bodies.{box_at_origin, player_body}
use Rattle.arena_map.specs.declared.map_line.MapLine.{MapLine}
use Rattle.arena_map.specs.declared.map_line.MapLine.TheVariants.{Arena, Block, Spawn, Item, Teleport, Goal, Lift, Depth, Shots, Blocks}

-- a side is at least 32,768 long
abbrev pub is_long : ℤ → ℤ → Bool
is_long from to = int_le (pos 32768) (to -ℤ from)

-- each side is
abbrev pub is_wide : Vec3 → Vec3 → Bool
is_wide lo hi = is_long lo.x hi.x && is_long lo.y hi.y && is_long lo.z hi.z

-- the low corner is below the high one on each axis
abbrev pub is_thick : Vec3 → Vec3 → Bool
is_thick lo hi = int_lt lo.x hi.x && int_lt lo.y hi.y && int_lt lo.z hi.z

-- the box has an inside, and is inside the arena
abbrev pub is_box_inside : Bounds → Vec3 → Vec3 → Bool
is_box_inside arena lo hi = is_thick lo hi && contains arena (bounds lo hi)

-- the body of a player with its origin there is inside the arena
abbrev pub is_player_inside : Bounds → Vec3 → Bool
is_player_inside arena at = contains arena (player_body at)

-- the body of an item with its origin there
abbrev pub item_body : Vec3 → Bounds
item_body at = box_at_origin at ITEM_MINS ITEM_MAXS

-- so far up
abbrev pub upwards : ℤ → Vec3
upwards rise = vector (pos 0) (pos 0) rise

-- a lift at its highest place
abbrev pub box_at_the_top : Vec3 → Vec3 → ℤ → Bounds
box_at_the_top lo hi rise = box_moved_by (bounds lo hi) (upwards rise)

-- a lift's shaft: its box from the lowest place to the highest
abbrev pub shaft : Vec3 → Vec3 → ℤ → Bounds
shaft lo hi rise = bounds lo (plus hi (upwards rise))

-- the shaft of the lift on a line
-- One box from the lowest place to the highest, which contains the lift at each height.
abbrev pub shaft_of : MapLine → Option Bounds
shaft_of (Lift lo hi rise speed) = Some (shaft lo hi rise)
shaft_of _ = None

-- the lift on a line has an inside
abbrev pub has_thick_lift : MapLine → Bool
has_thick_lift (Lift lo hi rise speed) = is_thick lo hi
has_thick_lift _ = true

-- rule 2: a block, teleporter, goal or lift has an inside, and is inside the arena
abbrev pub keeps_box : Bounds → MapLine → Bool
keeps_box arena (Arena lo hi) = true
keeps_box arena (Block lo hi) = is_box_inside arena lo hi
keeps_box arena (Spawn at) = true
keeps_box arena (Item at kind delay) = true
keeps_box arena (Teleport lo hi dest) = is_box_inside arena lo hi
keeps_box arena (Goal lo hi) = is_box_inside arena lo hi
keeps_box arena (Lift lo hi rise speed) = is_box_inside arena lo hi
keeps_box arena (Depth depth) = true
keeps_box arena Shots = true
keeps_box arena (Blocks most) = true

-- rule 4: a player at the spawn or the destination is inside the arena
abbrev pub keeps_stand : Bounds → MapLine → Bool
keeps_stand arena (Spawn at) = is_player_inside arena at
keeps_stand arena (Teleport lo hi dest) = is_player_inside arena dest
keeps_stand _ _ = true

-- rule 5: an item's body is inside the arena
abbrev pub keeps_item : Bounds → MapLine → Bool
keeps_item arena (Item at kind delay) = contains arena (item_body at)
keeps_item _ _ = true

-- rule 6: a lift at its highest place is inside the arena
abbrev pub keeps_travel : Bounds → MapLine → Bool
keeps_travel arena (Lift lo hi rise speed) = contains arena (box_at_the_top lo hi rise)
keeps_travel _ _ = true
