-- What a line says by itself at a stage, or the first of its faults that neither the map nor a count decides.
use Rattle.std.specs.Prelude.{ℕ, ◌==◌, Bool, List, nat_le, Option, Some, None, ok_or, option_map, Result, Ok, Err}
use Rattle.std.specs.Prelude.{if◌then◌else◌}
use Rattle.edge_io.specs.Numbers.{natural_up_to}
use Rattle.std.specs.Option.{option_or}
use Rattle.packet_read.specs.declared.arrival.TheConstants.{MOST_ARRIVALS}
use Rattle.arena_map.specs.declared.map_word.MapWord.{MapWord}
use Rattle.arena_map.specs.declared.map_line.MapLine.{MapLine}
use Rattle.arena_map.specs.Words.{fields_of}
use Rattle.arena_map.specs.Reading.{has_fields, line_within}
use Rattle.demo_lines.specs.declared.word.Word.{Word}
use Rattle.demo_lines.specs.declared.word.Word.TheVariants as words
use Rattle.demo_lines.specs.declared.stage.Stage.{Stage}
use Rattle.demo_lines.specs.declared.line.Line.{Line}
use Rattle.demo_lines.specs.declared.line.Line.TheVariants.{OfMap, Frame, From, End}
use Rattle.demo_lines.specs.declared.line_fault.LineFault.{LineFault}
use Rattle.demo_lines.specs.declared.line_fault.LineFault.TheVariants as faults
use Rattle.demo_lines.specs.declared.stage.Stage.TheVariants.{Refused}
use Rattle.demo_lines.specs.Packets.{packet_bytes}
use Rattle.demo_lines.specs.Known.{Reading, at_stage}
use Rattle.demo_lines.specs.Faults.{broken_by_line, broken_by_frame}
use Rattle.demo_lines.specs.Recording.{after_test}
use Rattle.demo_lines.specs.Words.{from_fields, is_nothing, is_allowed}
use Rattle.demo_lines.specs.Lines.{text_of, are_printable, first_word, rest_of}

-- the value, where the word is allowed here
abbrev pub value_if_allowed : {X : Type 0} → Stage → Word → Result X LineFault → Result X LineFault
value_if_allowed stage word value = if is_allowed stage word then value else Err faults.NotAllowed

-- a line of the map
abbrev pub map_line_said : Stage → MapWord → List ℕ → Result MapLine LineFault
map_line_said stage word rest =
    if has_fields (fields_of word) rest
    then value_if_allowed stage (words.OfMap word) (ok_or (line_within word rest) faults.Limit) else Err faults.Form

-- the answer of a map line: its form comes first, then its place, then its limits
abbrev pub in_order : Bool → Result MapLine ℕ → Result MapLine LineFault
in_order here (Ok line) = if here then Ok line else Err faults.NotAllowed
in_order here (Err n) = if n == 4 then Err faults.Form else if here then Err faults.Limit else Err faults.NotAllowed

-- a line of a word alone
abbrev pub bare_said : Stage → Word → Line → List ℕ → Result Line LineFault
bare_said stage word line rest = if is_nothing rest then value_if_allowed stage word (Ok line) else Err faults.Form

-- an arrival from this port
abbrev pub packet_said : Option (List ℕ) → ℕ → Result Line LineFault
packet_said None port = Err faults.Packet
packet_said (Some bytes) port = Ok (From (record { port = port; bytes = bytes }))

-- an arrival with a packet that is spelled so
abbrev pub port_said : Option ℕ → List ℕ → Result Line LineFault
port_said None packet = Err faults.Limit
port_said (Some port) packet = packet_said (packet_bytes packet) port

-- an arrival with these texts of its port and its packet
abbrev pub from_said : Stage → Option (List ℕ × List ℕ) → Result Line LineFault
from_said stage None = Err faults.Form
from_said stage (Some fields) = value_if_allowed stage words.From (port_said (natural_up_to 65535 fields.0) fields.1)

-- the line of the map
abbrev pub of_map : Result MapLine LineFault → Result Line LineFault
of_map (Ok line) = Ok (OfMap line)
of_map (Err why) = Err why

-- a word and its fields
abbrev pub word_said : Stage → Word → List ℕ → Result Line LineFault
word_said stage (words.OfMap word) rest = of_map (map_line_said stage word rest)
word_said stage words.Frame rest = bare_said stage words.Frame Frame rest
word_said stage words.From rest = from_said stage (from_fields rest)
word_said stage words.End rest = bare_said stage words.End End rest

-- the same, where there is a word
abbrev pub first_said : Stage → Option Word → List ℕ → Result Line LineFault
first_said stage None rest = Err faults.Word
first_said stage (Some word) rest = word_said stage word rest

-- a line of at most 512 bytes
abbrev pub line_said : Stage → List ℕ → Result Line LineFault
line_said stage raw =
    if are_printable (text_of raw) then first_said stage (first_word (text_of raw)) (rest_of (text_of raw))
    else Err faults.Byte

-- ---- at its place

-- the fault of a line at its place: the rule of the map that it breaks, or that it is one too many
abbrev pub stage_fault : Reading → Line → Option LineFault
stage_fault r (OfMap line) = option_map faults.Rule (broken_by_line r.map line)
stage_fault r Frame =
    option_or (option_map faults.Rule (broken_by_frame r)) (if nat_le r.limit r.frames then Some faults.Count else None)
stage_fault r (From a) = if nat_le MOST_ARRIVALS r.arrivals then Some faults.Count else None
stage_fault r End = None

-- after a line that says this, or has this fault
abbrev pub after_said : Reading → Result Line LineFault → Reading
after_said r (Ok line) = after_test r (stage_fault r line) (Some line)
after_said r (Err why) = at_stage (Refused why) r
