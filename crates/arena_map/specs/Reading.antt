-- What a map line says: its word, then whether its fields have the form that the word wants, and then their values
-- within the limits.
use Rattle.std.specs.Prelude.{ℕ, zero, suc, Bool, true, false, ◌&&◌, List, [], ◌∷◌, Option, Some, None, is_some, ok_or}
use Rattle.std.specs.Prelude.{Result, Err, ℤ, pos, codes, bytes_eq, ◌||◌, nat_le, if◌then◌else◌}
use Rattle.arena_geo.specs.declared.vec3.Vec3.{Vec3}
use Rattle.arena_geo.specs.Vectors.{vector}
use Rattle.entity_recs.specs.declared.kind.Kind.{Kind}
use Rattle.areanode.specs.declared.sizes.TheConstants.{LEAST_DEPTH, MOST_DEPTH}
use Rattle.edge_io.specs.Numbers.{natural_up_to, integer_up_to, is_integer}
use Rattle.edge_io.specs.Fields.{◌>>=◌, cut, field_at}
use Rattle.arena_map.specs.declared.limits.TheConstants.{DEFAULT_BLOCKS, MOST_BLOCKS}
use Rattle.arena_map.specs.declared.map_line.MapLine.{MapLine}
use Rattle.arena_map.specs.declared.map_line.MapLine.TheVariants.{Arena, Block, Spawn, Item, Teleport, Goal, Lift, Depth, Shots, Blocks}
use Rattle.arena_map.specs.declared.map_word.MapWord.{MapWord}
use Rattle.arena_map.specs.declared.map_word.MapWord.TheVariants as words
use Rattle.arena_map.specs.declared.map_word.MapField.{MapField}
use Rattle.arena_map.specs.declared.map_word.MapField.TheVariants.{Number, ItemKind}
use Rattle.arena_map.specs.Words.{map_word, item_kind, fields_of}

-- ---- the form

-- the text is one for this field: a number of any size, or the kind of an item
abbrev pub is_field : MapField → List ℕ → Bool
is_field Number text = is_integer text
is_field ItemKind text = is_some (item_kind text)

-- the first field is one for this field, and what holds of the rest
abbrev pub is_field_first : MapField → Option (List ℕ × List ℕ) → (List ℕ → Bool) → Bool
is_field_first field None more = false
is_field_first field (Some parts) more = is_field field parts.0 && more parts.1

-- these fields are on the line, and nothing more
abbrev pub has_fields : List MapField → List ℕ → Bool
has_fields [] [] = true
has_fields [] (b ∷ bytes) = false
has_fields (field ∷ fields) rest = is_field_first field (field_at rest) (has_fields fields)

-- ---- the values within their limits

-- a coordinate of at most 1,048,576 sub-units from 0, and the rest
abbrev pub coordinate_at : List ℕ → Option (ℤ × List ℕ)
coordinate_at rest = do
  field ← field_at rest
  z ← integer_up_to 1048576 field.0
  Some (z, field.1)

-- three coordinates, and the rest
abbrev pub point_at : List ℕ → Option (Vec3 × List ℕ)
point_at rest = do
  x ← coordinate_at rest
  y ← coordinate_at x.1
  z ← coordinate_at y.1
  Some (vector x.0 y.0 z.0, z.1)

-- the number, where it isn't 0
abbrev pub above_zero : ℕ → Option ℕ
above_zero zero = None
above_zero (suc n) = Some (suc n)

-- a number from 1 to the limit, and the rest
abbrev pub count_at : ℕ → List ℕ → Option (ℕ × List ℕ)
count_at limit rest = do
  field ← field_at rest
  n ← natural_up_to limit field.0
  count ← above_zero n
  Some (count, field.1)

-- the kind of an item, and the rest
abbrev pub kind_at : List ℕ → Option (Kind × List ℕ)
kind_at rest = do
  field ← field_at rest
  kind ← item_kind field.0
  Some (kind, field.1)

-- a low corner, a high one, and the rest
abbrev pub corners_at : List ℕ → Option (Vec3 × Vec3 × List ℕ)
corners_at rest = do
  lo ← point_at rest
  hi ← point_at lo.1
  Some (lo.0, hi.0, hi.1)

-- the line, where nothing more is on it
abbrev pub line_at_end : MapLine → List ℕ → Option MapLine
line_at_end line [] = Some line
line_at_end line (b ∷ bytes) = None

-- the arena's corners
abbrev pub arena_in : List ℕ → Option MapLine
arena_in rest = do
  corners ← corners_at rest
  line_at_end (Arena corners.0 corners.1) corners.2

-- a block's corners
abbrev pub block_in : List ℕ → Option MapLine
block_in rest = do
  corners ← corners_at rest
  line_at_end (Block corners.0 corners.1) corners.2

-- where players join
abbrev pub spawn_in : List ℕ → Option MapLine
spawn_in rest = do
  at ← point_at rest
  line_at_end (Spawn at.0) at.1

-- where an item is, its kind, and after how many frames it returns: 1 to 65,535
abbrev pub item_in : List ℕ → Option MapLine
item_in rest = do
  at ← point_at rest
  kind ← kind_at at.1
  delay ← count_at 65535 kind.1
  line_at_end (Item at.0 kind.0 delay.0) delay.1

-- a teleporter's corners, and where it moves players
abbrev pub teleport_in : List ℕ → Option MapLine
teleport_in rest = do
  corners ← corners_at rest
  dest ← point_at corners.2
  line_at_end (Teleport corners.0 corners.1 dest.0) dest.1

-- a goal's corners
abbrev pub goal_in : List ℕ → Option MapLine
goal_in rest = do
  corners ← corners_at rest
  line_at_end (Goal corners.0 corners.1) corners.2

-- a lift's corners at its lowest place, how far it rises: 1 to 1,048,576, and how far it moves in a frame: 1 to 2,560
abbrev pub lift_in : List ℕ → Option MapLine
lift_in rest = do
  corners ← corners_at rest
  rise ← count_at 1048576 corners.2
  speed ← count_at 2560 rise.1
  line_at_end (Lift corners.0 corners.1 (pos rise.0) (pos speed.0)) speed.1

-- the number, where it is at least this
abbrev pub at_least : ℕ → ℕ → Option ℕ
at_least least n = if nat_le least n then Some n else None

-- a number from the least to the most, and the rest
abbrev pub number_between : ℕ → ℕ → List ℕ → Option (ℕ × List ℕ)
number_between least most rest = do
  field ← field_at rest
  n ← natural_up_to most field.0
  number ← at_least least n
  Some (number, field.1)

-- how deep the tree of areanodes is: 3 to 5
abbrev pub depth_in : List ℕ → Option MapLine
depth_in rest = do
  depth ← number_between LEAST_DEPTH MOST_DEPTH rest
  line_at_end (Depth depth.0) depth.1

-- how many blocks there may be: 1,024 to 4,096
abbrev pub blocks_in : List ℕ → Option MapLine
blocks_in rest = do
  most ← number_between DEFAULT_BLOCKS MOST_BLOCKS rest
  line_at_end (Blocks most.0) most.1

-- the line with these fields, each number within its limit
abbrev pub line_within : MapWord → List ℕ → Option MapLine
line_within words.Arena rest = arena_in rest
line_within words.Block rest = block_in rest
line_within words.Spawn rest = spawn_in rest
line_within words.Item rest = item_in rest
line_within words.Teleport rest = teleport_in rest
line_within words.Goal rest = goal_in rest
line_within words.Lift rest = lift_in rest
line_within words.Depth rest = depth_in rest
line_within words.Shots rest = line_at_end Shots rest
line_within words.Blocks rest = blocks_in rest

-- ---- the line

-- the line of this word: the fault is 4 where its fields don't have their form, and else 6 where a number isn't within
-- its limit
abbrev pub line_of_word : MapWord → List ℕ → Result MapLine ℕ
line_of_word word rest = if has_fields (fields_of word) rest then ok_or (line_within word rest) 6 else Err 4

-- the same; the fault is 3 where there is no word
abbrev pub line_of_first : Option MapWord → List ℕ → Result MapLine ℕ
line_of_first None rest = Err 3
line_of_first (Some word) rest = line_of_word word rest

-- what a map line says, or else the number of its fault: the first of 3, 4 and 6 that holds
abbrev pub map_line_of : List ℕ → Result MapLine ℕ
map_line_of line = line_of_first (map_word (cut line).0) (cut line).1

-- the text is one of the words that are on a line of a recording and of no map
abbrev pub is_word_of_play : List ℕ → Bool
is_word_of_play text = bytes_eq text (codes "frame") || bytes_eq text (codes "from") || bytes_eq text (codes "end")
