-- The map of every generated recording.
use Rattle.std.specs.Prelude.{ℕ, ◌*◌, ◌/◌, ◌%◌, ◌==◌, List, [], ◌∷◌, ◌++◌, map, ℤ, pos, ◌+ℤ◌, ◌-ℤ◌, if◌then◌else◌}
use Rattle.std.specs.List.{range_with_len}
use Rattle.arena_geo.specs.declared.vec3.Vec3.{Vec3}
use Rattle.arena_geo.specs.Vectors.{vector}
use Rattle.arena_geo.specs.Bounds.{Bounds, bounds}
use Rattle.entity_recs.specs.declared.kind.Kind.{Kind}
use Rattle.entity_recs.specs.declared.kind.Kind.TheVariants.{Ammo, Gem}
use Rattle.arena_map.specs.declared.map_line.MapLine.{MapLine}
use Rattle.arena_map.specs.declared.map_line.MapLine.TheVariants.{Arena, Block, Spawn, Item, Teleport, Goal, Lift}
use Rattle.arena_map.specs.Maps.{MapView, plain_map}

-- so far below 0
abbrev pub below : ℕ → ℤ
below n = pos 0 -ℤ pos n

-- the place with this number in a row: the first is so far below 0, and they are so far apart
abbrev pub in_row : ℕ → ℕ → ℕ → ℤ
in_row apart first i = pos (i * apart) -ℤ pos first

-- the arena: 2,048 units of Quake along x and y, 512 along z
abbrev pub arena : Bounds
arena = bounds (vector (below 262144) (below 262144) (pos 0)) (vector (pos 262144) (pos 262144) (pos 131072))

-- a spawn of 64, on the floor, in eight rows of eight
abbrev pub spawn_at : ℕ → Vec3
spawn_at i = vector (in_row 49152 172032 (i % 8)) (in_row 49152 172032 (i / 8)) (pos 6144)

-- the low corner of a block of 16, in four rows of four
abbrev pub block_corner : ℕ → Vec3
block_corner j = vector (in_row 98304 151552 (j % 4)) (in_row 98304 151552 (j / 4)) (pos 0)

-- a block of 16: 32 units along x and y, 100 high
abbrev pub block_at : ℕ → Bounds
block_at j = bounds
    (block_corner j)
    (vector ((block_corner j).x +ℤ pos 8192) ((block_corner j).y +ℤ pos 8192) (pos 25600))

-- ammunition, where the number is even, and else a gem
abbrev pub kind_of : ℕ → Kind
kind_of j = if j % 2 == 0 then Ammo else Gem

-- an item of 16, in four rows of four, each before a block; it returns 40 frames after it was taken
abbrev pub item_line : ℕ → MapLine
item_line j = Item (vector (in_row 98304 151552 (j % 4)) (in_row 98304 176128 (j / 4)) (pos 0)) (kind_of j) 40

-- the centre of the floor, to which both teleporters lead
abbrev pub centre : Vec3
centre = vector (pos 0) (pos 0) (pos 6144)

-- a teleporter near the lowest corner, and one near the opposite corner
abbrev pub low_teleport : MapLine
low_teleport = Teleport
    (vector (below 229376) (below 229376) (pos 0))
    (vector (below 204800) (below 204800) (pos 25600))
    centre

abbrev pub high_teleport : MapLine
high_teleport = Teleport
    (vector (pos 204800) (pos 204800) (pos 0))
    (vector (pos 229376) (pos 229376) (pos 25600))
    centre

-- the goal, around the centre
abbrev pub goal_line : MapLine
goal_line = Goal (vector (below 16384) (below 16384) (pos 0)) (vector (pos 16384) (pos 16384) (pos 25600))

-- the lift, near a third corner: it rises by 100 units, two in a frame
abbrev pub lift_line : MapLine
lift_line =
    Lift
    (vector (pos 204800) (below 229376) (pos 0))
    (vector (pos 229376) (below 204800) (pos 2560))
    (pos 25600)
    (pos 512)

-- the things: the items, the teleporters, the goal and the lift
abbrev pub things : List MapLine
things = map item_line (range_with_len 0 16) ++ low_teleport ∷ high_teleport ∷ goal_line ∷ lift_line ∷ []

-- the map
abbrev pub generated_map : MapView
generated_map = plain_map arena (map block_at (range_with_len 0 16)) (map spawn_at (range_with_len 0 64)) things

-- ---- its lines

-- the lines of the spawns and of the blocks
abbrev pub spawn_line : ℕ → MapLine
spawn_line i = Spawn (spawn_at i)

abbrev pub block_line : ℕ → MapLine
block_line j = Block (block_at j).lo (block_at j).hi

-- the 101 lines: the arena, the spawns, the blocks and the things
abbrev pub generated_lines : List MapLine
generated_lines =
    Arena arena.lo arena.hi ∷ map spawn_line (range_with_len 0 64) ++ (map block_line (range_with_len 0 16) ++ things)
