-- The words of map lines, and the fields that each word wants after it.
use Rattle.std.specs.Prelude.{ℕ, List, [], ◌∷◌, ◌++◌, replicate, Option, Some, None, codes, bytes_eq, if◌then◌else◌}
use Rattle.entity_recs.specs.declared.kind.Kind.{Kind}
use Rattle.entity_recs.specs.declared.kind.Kind.TheVariants as kinds
use Rattle.arena_map.specs.declared.map_word.MapWord.{MapWord}
use Rattle.arena_map.specs.declared.map_word.MapWord.TheVariants.{Arena, Block, Spawn, Item, Teleport, Goal, Lift, Depth, Shots, Blocks}
use Rattle.arena_map.specs.declared.map_word.MapField.{MapField}
use Rattle.arena_map.specs.declared.map_word.MapField.TheVariants.{Number, ItemKind}

-- how a word is written
abbrev pub word_text : MapWord → List ℕ
word_text Arena = codes "arena"
word_text Block = codes "block"
word_text Spawn = codes "spawn"
word_text Item = codes "item"
word_text Teleport = codes "teleport"
word_text Goal = codes "goal"
word_text Lift = codes "lift"
word_text Depth = codes "depth"
word_text Shots = codes "shots"
word_text Blocks = codes "blocks"

-- the word that is written so
abbrev pub map_word : List ℕ → Option MapWord
map_word text =
    if bytes_eq text (codes "arena") then Some Arena
    else if bytes_eq text (codes "block") then Some Block
    else if bytes_eq text (codes "spawn") then Some Spawn
    else if bytes_eq text (codes "item") then Some Item
    else if bytes_eq text (codes "teleport") then Some Teleport
    else if bytes_eq text (codes "goal") then Some Goal
    else if bytes_eq text (codes "lift") then Some Lift
    else if bytes_eq text (codes "depth") then Some Depth
    else if bytes_eq text (codes "shots") then Some Shots
    else if bytes_eq text (codes "blocks") then Some Blocks
    else None

-- how the kind of an item is written; the other kinds are on no line
abbrev pub kind_text : Kind → List ℕ
kind_text kinds.Ammo = codes "ammo"
kind_text kinds.Gem = codes "gem"
kind_text _ = []

-- the kind of an item that is written so
abbrev pub item_kind : List ℕ → Option Kind
item_kind text =
    if bytes_eq text (codes "ammo") then Some kinds.Ammo else if bytes_eq text (codes "gem")
    then Some kinds.Gem else None

-- so many numbers
abbrev pub numbers : ℕ → List MapField
numbers count = replicate count Number

-- the fields of a word's line, in their order
abbrev pub fields_of : MapWord → List MapField
fields_of Arena = numbers 6
fields_of Block = numbers 6
fields_of Spawn = numbers 3
fields_of Item = numbers 3 ++ ItemKind ∷ Number ∷ []
fields_of Teleport = numbers 9
fields_of Goal = numbers 6
fields_of Lift = numbers 8
fields_of Depth = numbers 1
fields_of Shots = []
fields_of Blocks = numbers 1
