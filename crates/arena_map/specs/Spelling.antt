-- How map lines are written.
use Rattle.std.specs.Prelude.{ℕ, List, [], ◌++◌, decimal}
use Rattle.std.specs.Fmt.{signed_decimal}
use Rattle.arena_geo.specs.declared.vec3.Vec3.{Vec3}
use Rattle.edge_io.specs.Fields.{field_text}
use Rattle.arena_map.specs.declared.map_line.MapLine.{MapLine}
use Rattle.arena_map.specs.declared.map_line.MapLine.TheVariants.{Arena, Block, Spawn, Item, Teleport, Goal, Lift, Depth, Shots, Blocks}
use Rattle.arena_map.specs.declared.map_word.MapWord.{MapWord}
use Rattle.arena_map.specs.declared.map_word.MapWord.TheVariants as words
use Rattle.arena_map.specs.Words.{word_text, kind_text}

-- the word of a line
abbrev pub word_of : MapLine → MapWord
word_of (Arena lo hi) = words.Arena
word_of (Block lo hi) = words.Block
word_of (Spawn at) = words.Spawn
word_of (Item at kind delay) = words.Item
word_of (Teleport lo hi dest) = words.Teleport
word_of (Goal lo hi) = words.Goal
word_of (Lift lo hi rise speed) = words.Lift
word_of (Depth depth) = words.Depth
word_of Shots = words.Shots
word_of (Blocks most) = words.Blocks

-- a point: its three coordinates in decimal, with a minus in front of each that is below 0
abbrev pub point_text : Vec3 → List ℕ
point_text p = field_text (signed_decimal p.x) ++ field_text (signed_decimal p.y) ++ field_text (signed_decimal p.z)

-- the fields of a line
abbrev pub fields_text : MapLine → List ℕ
fields_text (Arena lo hi) = point_text lo ++ point_text hi
fields_text (Block lo hi) = point_text lo ++ point_text hi
fields_text (Spawn at) = point_text at
fields_text (Item at kind delay) = point_text at ++ field_text (kind_text kind) ++ field_text (decimal delay)
fields_text (Teleport lo hi dest) = point_text lo ++ point_text hi ++ point_text dest
fields_text (Goal lo hi) = point_text lo ++ point_text hi
fields_text (Lift lo hi rise speed) =
    point_text lo ++ point_text hi ++ field_text (signed_decimal rise) ++ field_text (signed_decimal speed)
fields_text (Depth depth) = field_text (decimal depth)
fields_text Shots = []
fields_text (Blocks most) = field_text (decimal most)

-- a line: its word and its fields
abbrev pub map_line_text : MapLine → List ℕ
map_line_text line = word_text (word_of line) ++ fields_text line
