-- What one line of a recording says: its text, its word, and the values of its fields.
use Rattle.std.specs.Prelude.{ℕ, ◌-◌, Bool, ◌&&◌, nat_le, List, length, take, drop, Option, Some, None, option_map}
use Rattle.std.specs.Prelude.{codes, bytes_eq, if◌then◌else◌}
use Rattle.std.specs.List.{list_all}
use Rattle.edge_io.specs.Numbers.{natural_up_to}
use Rattle.edge_io.specs.Fields.{◌>>=◌, cut}
use Rattle.arena_map.specs.Reading.{line_within}
use Rattle.demo_lines.specs.declared.word.Word.{Word}
use Rattle.demo_lines.specs.declared.word.Word.TheVariants as words
use Rattle.demo_lines.specs.declared.line.Line.{Line}
use Rattle.demo_lines.specs.declared.line.Line.TheVariants.{OfMap, Frame, From, End}
use Rattle.demo_lines.specs.Packets.{packet_bytes}
use Rattle.demo_lines.specs.Words.{word_in, from_fields}

-- the last byte is a carriage return
abbrev pub ends_in_return : List ℕ → Bool
ends_in_return raw = bytes_eq (drop (length raw - 1) raw) (codes "\r")

-- the text of a line: all of it, but for a carriage return that is its last byte
abbrev pub text_of : List ℕ → List ℕ
text_of raw = if ends_in_return raw then take (length raw - 1) raw else raw

-- the line says that the recording ends
abbrev pub is_end : List ℕ → Bool
is_end raw = bytes_eq (text_of raw) (codes "end")

-- the byte is one of ASCII that is printed, or the space
abbrev pub is_printable : ℕ → Bool
is_printable b = nat_le 32 b && nat_le b 126

-- each byte is
abbrev pub are_printable : List ℕ → Bool
are_printable text = list_all is_printable text

-- the word of a text, and what follows it
abbrev pub first_word : List ℕ → Option Word
first_word text = word_in (cut text).0

abbrev pub rest_of : List ℕ → List ℕ
rest_of text = (cut text).1

-- the port on a line, where it is at most 65,535
abbrev pub port_in : List ℕ → Option ℕ
port_in rest = do
  fields ← from_fields rest
  natural_up_to 65535 fields.0

-- the bytes of the packet on a line, where it spells some
abbrev pub bytes_in : List ℕ → Option (List ℕ)
bytes_in rest = do
  fields ← from_fields rest
  packet_bytes fields.1

-- the port that sent a packet, and its bytes
abbrev pub from_of : List ℕ → Option Line
from_of rest = do
  port ← port_in rest
  bytes ← bytes_in rest
  Some (From (record { port = port; bytes = bytes }))

-- what a word and its fields say, where their values are within their limits
abbrev pub line_of : Word → List ℕ → Option Line
line_of (words.OfMap word) rest = option_map OfMap (line_within word rest)
line_of words.Frame rest = Some Frame
line_of words.From rest = from_of rest
line_of words.End rest = Some End

-- the same, where there is a word
abbrev pub line_of_first : Option Word → List ℕ → Option Line
line_of_first None rest = None
line_of_first (Some word) rest = line_of word rest

-- what a line says
abbrev pub line_in : List ℕ → Option Line
line_in raw = line_of_first (first_word (text_of raw)) (rest_of (text_of raw))
