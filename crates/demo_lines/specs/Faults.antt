-- The faults of a line, as tests in their order, and the first that holds.
use Rattle.std.specs.Prelude.{ℕ, Bool, false, ◌&&◌, not, nat_lt, nat_le, List, length, Option, Some, None, is_none}
use Rattle.std.specs.Prelude.{option_map, if◌then◌else◌}
use Rattle.std.specs.Option.{option_or}
use Rattle.packet_read.specs.declared.arrival.TheConstants.{MOST_ARRIVALS}
use Rattle.arena_map.specs.declared.map_fault.MapFault.{MapFault}
use Rattle.arena_map.specs.declared.map_fault.MapFault.TheVariants as rules
use Rattle.arena_map.specs.Faults.{number_of}
use Rattle.arena_map.specs.declared.map_line.MapLine.{MapLine}
use Rattle.arena_map.specs.Maps.{MapView, is_ready}
use Rattle.arena_map.specs.Rules.{broken_at_first, broken_rule}
use Rattle.arena_map.specs.Reading.{line_within}
use Rattle.demo_lines.specs.declared.line_fault.LineFault.{LineFault}
use Rattle.demo_lines.specs.declared.line_fault.LineFault.TheVariants.{Long, NoEnd, Byte, Word, Form, NotAllowed, Limit}
use Rattle.demo_lines.specs.declared.line_fault.LineFault.TheVariants.{Rule, Packet, Count}
use Rattle.demo_lines.specs.declared.word.Word as word_types
use Rattle.demo_lines.specs.declared.word.Word.TheVariants as words
use Rattle.demo_lines.specs.Known.{Reading, is_map_whole}
use Rattle.demo_lines.specs.Words.{has_form, is_allowed}
use Rattle.demo_lines.specs.Lines.{text_of, is_end, are_printable, first_word, rest_of, port_in, bytes_in}

-- ---- the tests

-- 1: there are more than 512 bytes
abbrev pub is_long : List ℕ → Bool
is_long raw = nat_lt 512 (length raw)

-- 10: the input ended in the line or before it, and the line isn't the end
abbrev pub is_cut : Bool → List ℕ → Bool
is_cut ended raw = ended && not (is_end raw)

-- 2: a byte isn't one of ASCII that is printed
abbrev pub has_strange_byte : List ℕ → Bool
has_strange_byte raw = not (are_printable (text_of raw))

-- 6: a number isn't within its limit
abbrev pub is_out_of_limit : word_types.Word → List ℕ → Bool
is_out_of_limit (words.OfMap word) rest = is_none (line_within word rest)
is_out_of_limit words.Frame rest = false
is_out_of_limit words.From rest = is_none (port_in rest)
is_out_of_limit words.End rest = false

-- 7: the rule of the map that a line of it breaks; the first line begins the map
abbrev pub broken_by_line : Option MapView → MapLine → Option MapFault
broken_by_line None line = broken_at_first line
broken_by_line (Some map) line = broken_rule map line

-- there is a map, and it has a spawn
abbrev pub has_spawn : Option MapView → Bool
has_spawn None = false
has_spawn (Some map) = is_ready map

-- the rule that a frame breaks: the first one wants a spawn
abbrev pub broken_by_frame : Reading → Option MapFault
broken_by_frame r = if is_map_whole r.stage then None else if has_spawn r.map then None else Some rules.NoSpawn

abbrev pub broken_by_some : Option MapView → Option MapLine → Option MapFault
broken_by_some map None = None
broken_by_some map (Some line) = broken_by_line map line

abbrev pub broken_by : Reading → word_types.Word → List ℕ → Option MapFault
broken_by r (words.OfMap word) rest = broken_by_some r.map (line_within word rest)
broken_by r words.Frame rest = broken_by_frame r
broken_by r words.From rest = None
broken_by r words.End rest = None

-- 8: the text of a packet spells none
abbrev pub has_no_packet : word_types.Word → List ℕ → Bool
has_no_packet (words.OfMap word) rest = false
has_no_packet words.Frame rest = false
has_no_packet words.From rest = is_none (bytes_in rest)
has_no_packet words.End rest = false

-- 9: the line is one more frame than a recording may have, or one more packet than a frame may have
abbrev pub is_one_too_many : Reading → word_types.Word → Bool
is_one_too_many r (words.OfMap word) = false
is_one_too_many r words.Frame = nat_le r.limit r.frames
is_one_too_many r words.From = nat_le MOST_ARRIVALS r.arrivals
is_one_too_many r words.End = false

-- ---- the first that holds

-- of the tests 4 to 9, where the line has a word
abbrev pub fault_after_word : Reading → word_types.Word → List ℕ → Option LineFault
fault_after_word r word rest =
    if not (has_form word rest) then Some Form
    else if not (is_allowed r.stage word) then Some NotAllowed
    else if is_out_of_limit word rest then Some Limit
    else option_or (option_map Rule (broken_by r word rest))
    (if has_no_packet word rest then Some Packet
    else if is_one_too_many r word then Some Count
    else None)

-- of the tests 3 to 9
abbrev pub fault_of_words : Reading → Option word_types.Word → List ℕ → Option LineFault
fault_of_words r None rest = Some Word
fault_of_words r (Some word) rest = fault_after_word r word rest

-- the fault of a line at its place, in the order 1, 10, 2, 3, 4, 5, 6, 7, 8, 9; ended says whether the input ended in
-- the line or before it
-- The tests one after another are the definition, off which the order of the faults can be read; the code makes one
-- pass, and a lemma says that both find the same.
abbrev pub fault_of : Reading → Bool → List ℕ → Option LineFault
fault_of r ended raw =
    if is_long raw then Some Long
    else if is_cut ended raw then Some NoEnd
    else if has_strange_byte raw then Some Byte
    else fault_of_words r (first_word (text_of raw)) (rest_of (text_of raw))

-- ---- their numbers

-- a fault's number
abbrev pub fault_number : LineFault → ℕ
fault_number Long = 1
fault_number NoEnd = 10
fault_number Byte = 2
fault_number Word = 3
fault_number Form = 4
fault_number NotAllowed = 5
fault_number Limit = 6
fault_number (Rule rule) = 7
fault_number Packet = 8
fault_number Count = 9

-- the number of the broken rule, 0 where none is
abbrev pub rule_number : LineFault → ℕ
rule_number (Rule rule) = number_of rule
rule_number _ = 0
