-- The words of a recording's lines, the fields that each wants, and where each is allowed.
use Rattle.std.specs.Prelude.{ℕ, ◌==◌, Bool, true, false, ◌&&◌, not, List, length, Option, Some, None, is_some}
use Rattle.std.specs.Prelude.{option_map, codes, bytes_eq, if◌then◌else◌}
use Rattle.edge_io.specs.Numbers.{is_integer}
use Rattle.edge_io.specs.Fields.{◌>>=◌, field_at}
use Rattle.arena_map.specs.declared.map_word.MapWord.{MapWord}
use Rattle.arena_map.specs.declared.map_word.MapWord.TheVariants as words
use Rattle.arena_map.specs.Words.{map_word, fields_of}
use Rattle.arena_map.specs.Reading.{has_fields}
use Rattle.demo_lines.specs.declared.word.Word.{Word}
use Rattle.demo_lines.specs.declared.word.Word.TheVariants.{OfMap, Frame, From, End}
use Rattle.demo_lines.specs.declared.stage.Stage.{Stage}
use Rattle.demo_lines.specs.declared.stage.Stage.TheVariants.{Start, Map, Playing, Ended, Refused}

-- the word that is written so
abbrev pub word_in : List ℕ → Option Word
word_in text =
    if bytes_eq text (codes "frame") then Some Frame
    else if bytes_eq text (codes "from") then Some From
    else if bytes_eq text (codes "end") then Some End
    else option_map OfMap (map_word text)

-- nothing is left
abbrev pub is_nothing : List ℕ → Bool
is_nothing bytes = length bytes == 0

-- the texts of a port and of a packet, where the first is a number of any size and nothing more is on the line
abbrev pub from_fields : List ℕ → Option (List ℕ × List ℕ)
from_fields rest = do
  port ← field_at rest
  packet ← field_at port.1
  if is_integer port.0 && is_nothing packet.1 then Some (port.0, packet.0) else None

-- the fields after the word have the form that it wants
abbrev pub has_form : Word → List ℕ → Bool
has_form (OfMap word) rest = has_fields (fields_of word) rest
has_form Frame rest = is_nothing rest
has_form From rest = is_some (from_fields rest)
has_form End rest = is_nothing rest

-- the word is the arena's
abbrev pub is_arena_word : MapWord → Bool
is_arena_word words.Arena = true
is_arena_word _ = false

-- the word is allowed at the start: the arena's, and only there
abbrev pub is_first : Word → Bool
is_first (OfMap word) = is_arena_word word
is_first Frame = false
is_first From = false
is_first End = false

-- the word is allowed after the arena and before the first frame
abbrev pub is_in_map : Word → Bool
is_in_map (OfMap word) = not (is_arena_word word)
is_in_map Frame = true
is_in_map From = false
is_in_map End = true

-- the word is allowed after the first frame
abbrev pub is_in_play : Word → Bool
is_in_play (OfMap word) = false
is_in_play Frame = true
is_in_play From = true
is_in_play End = true

-- the word is allowed at this stage
abbrev pub is_allowed : Stage → Word → Bool
is_allowed Start word = is_first word
is_allowed Map word = is_in_map word
is_allowed Playing word = is_in_play word
is_allowed Ended word = false
is_allowed (Refused why) word = false
