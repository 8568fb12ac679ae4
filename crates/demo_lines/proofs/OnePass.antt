-- A line read in one pass has the same fault and says the same as by the tests one after another.
use Rattle.std.proofs.Common.{◌≡◌, ℕ, ◌≤◌, Bool, true, false, not, nat_le, List, [], length, Option, Some, None, Result, Ok, Err, is_some, is_none, option_map, cond, refl, sym, ap, ◌∙◌, arith}
use Rattle.std.specs.Option.{option_or, ok_or}
use Rattle.std.specs.Result.{result_ok}
use Rattle.std.proofs.lemmas.Bool.Decides.{nat_tests}
use Rattle.edge_io.specs.Numbers.{natural_up_to}
use Rattle.edge_io.specs.Fields.{◌>>=◌}
use Rattle.arena_map.specs.declared.map_line.MapLine.{MapLine}
use Rattle.arena_map.specs.Words.{fields_of}
use Rattle.arena_map.specs.Reading.{has_fields, line_within}
use Rattle.demo_lines.specs.declared.word.Word.{Word}
use Rattle.demo_lines.specs.declared.word.Word.TheVariants as words
use Rattle.demo_lines.specs.declared.stage.Stage.{Stage}
use Rattle.demo_lines.specs.declared.stage.Stage.TheVariants.{Start, Map, Playing, Ended, Refused}
use Rattle.demo_lines.specs.declared.line.Line.{Line}
use Rattle.demo_lines.specs.declared.line.Line.TheVariants.{OfMap, Frame, From, End}
use Rattle.demo_lines.specs.declared.line_fault.LineFault.{LineFault}
use Rattle.demo_lines.specs.declared.line_fault.LineFault.TheVariants as faults
use Rattle.demo_lines.specs.Packets.{packet_bytes}
use Rattle.demo_lines.specs.Known.{Reading, is_over, is_refused}
use Rattle.demo_lines.specs.Words.{is_nothing, is_allowed, from_fields}
use Rattle.demo_lines.specs.Lines.{text_of, are_printable, first_word, rest_of, line_of_first, line_in}
use Rattle.demo_lines.specs.Faults.{is_long, broken_by_line, broken_by_some, fault_of_words, fault_of}
use Rattle.demo_lines.specs.Recording.{next, after_test, event_of, events_of_test, events_of_line}
use Rattle.demo_lines.specs.Said.{of_map, from_said, port_said, packet_said, first_said, line_said, stage_fault, after_said}

-- the fault of what a line says at its place
abbrev pub fault_said : Reading → Result Line LineFault → Option LineFault
fault_said r (Ok line) = stage_fault r line
fault_said r (Err why) = Some why

or_none : (o : Option LineFault) → option_or o None ≡ o
or_none None = refl
or_none (Some why) = refl

-- what a port and a packet say, where they are allowed here
abbrev from_read : Bool → Option (List ℕ × List ℕ) → Result Line LineFault
from_read here None = Err faults.Form
from_read here (Some fields) = cond here (port_said (natural_up_to 65535 fields.0) fields.1) (Err faults.NotAllowed)

from_read-is : (stage : Stage) (fields : Option (List ℕ × List ℕ)) → from_said stage fields ≡ from_read (is_allowed stage words.From) fields
from_read-is stage None = refl
from_read-is stage (Some fields) = refl

-- ---- by the word

of_map-fault : (r : Reading) (form here : Bool) (within : Option MapLine)
    → cond (not form) (Some faults.Form) (cond (not here) (Some faults.NotAllowed)
    (cond (is_none within) (Some faults.Limit) (option_or (option_map faults.Rule (broken_by_some r.map within)) None)))
    ≡ fault_said r (of_map (cond form (cond here (ok_or within faults.Limit) (Err faults.NotAllowed)) (Err faults.Form)))
of_map-fault r false here within = refl
of_map-fault r true false within = refl
of_map-fault r true true None = refl
of_map-fault r true true (Some line) = or_none (option_map faults.Rule (broken_by_line r.map line))

bare-fault : (r : Reading) (form here : Bool) (line : Line) (fault : Option LineFault) → fault ≡ stage_fault r line
    → cond (not form) (Some faults.Form) (cond (not here) (Some faults.NotAllowed) fault) ≡ fault_said r (cond form (cond here (Ok line) (Err faults.NotAllowed)) (Err faults.Form))
bare-fault r false here line fault is = refl
bare-fault r true false line fault is = refl
bare-fault r true true line fault is = is

values-fault : (r : Reading) (port : Option ℕ) (bytes : Option (List ℕ)) (packet : List ℕ) → packet_bytes packet ≡ bytes
    → cond (is_none port) (Some faults.Limit) (cond (is_none bytes) (Some faults.Packet) (cond (nat_le 512 r.arrivals) (Some faults.Count) None))
    ≡ fault_said r (port_said port packet)
values-fault r None bytes packet is = refl
values-fault r (Some port) None packet is = ap (λ o. fault_said r (packet_said o port)) (sym is)
values-fault r (Some port) (Some bytes) packet is = ap (λ o. fault_said r (packet_said o port)) (sym is)

from-fault : (r : Reading) (here : Bool) (fields : Option (List ℕ × List ℕ))
    → cond (not (is_some fields)) (Some faults.Form) (cond (not here) (Some faults.NotAllowed)
    (cond (is_none (fields >>= (λ f. natural_up_to 65535 f.0))) (Some faults.Limit)
    (cond (is_none (fields >>= (λ f. packet_bytes f.1))) (Some faults.Packet) (cond (nat_le 512 r.arrivals) (Some faults.Count) None))))
    ≡ fault_said r (from_read here fields)
from-fault r here None = refl
from-fault r false (Some fields) = refl
from-fault r true (Some fields) = values-fault r (natural_up_to 65535 fields.0) (packet_bytes fields.1) fields.1 refl

words-fault : (r : Reading) (first : Option Word) (rest : List ℕ) → fault_of_words r first rest ≡ fault_said r (first_said r.stage first rest)
words-fault r None rest = refl
words-fault r (Some (words.OfMap word)) rest =
    of_map-fault r (has_fields (fields_of word) rest) (is_allowed r.stage (words.OfMap word)) (line_within word rest)
words-fault r (Some words.Frame) rest = bare-fault r (is_nothing rest) (is_allowed r.stage words.Frame) Frame _ refl
words-fault r (Some words.From) rest = from-fault r (is_allowed r.stage words.From) (from_fields rest) ∙ ap (fault_said r) (sym (from_read-is r.stage (from_fields rest)))
words-fault r (Some words.End) rest = bare-fault r (is_nothing rest) (is_allowed r.stage words.End) End _ refl

text-fault : (r : Reading) (printable : Bool) (first : Option Word) (rest : List ℕ)
    → cond (not printable) (Some faults.Byte) (fault_of_words r first rest) ≡ fault_said r (cond printable (first_said r.stage first rest) (Err faults.Byte))
text-fault r false first rest = refl
text-fault r true first rest = words-fault r first rest

-- a line that isn't too long has the fault that one pass finds
pub fault-said : (r : Reading) (raw : List ℕ) → is_long raw ≡ false → fault_of r false raw ≡ fault_said r (line_said r.stage raw)
fault-said r raw short =
    ap (λ b. cond b (Some faults.Long) (cond (not (are_printable (text_of raw))) (Some faults.Byte) (fault_of_words r (first_word (text_of raw)) (rest_of (text_of raw))))) short
    ∙ text-fault r (are_printable (text_of raw)) (first_word (text_of raw)) (rest_of (text_of raw))

-- ---- what it says

of_map-line : (form here : Bool) (within : Option MapLine) (line : Line)
    → of_map (cond form (cond here (ok_or within faults.Limit) (Err faults.NotAllowed)) (Err faults.Form)) ≡ Ok line → option_map OfMap within ≡ Some line
of_map-line false here within line h = cc
of_map-line true false within line h = cc
of_map-line true true None line h = cc
of_map-line true true (Some l) line h = cc

bare-line : (form here : Bool) (said line : Line) → cond form (cond here (Ok said) (Err faults.NotAllowed)) (Err faults.Form) ≡ Ok line → Some said ≡ Some line
bare-line false here said line h = cc
bare-line true false said line h = cc
bare-line true true said line h = cc

packet-line : (port : ℕ) (bytes : Option (List ℕ)) (line : Line) → packet_said bytes port ≡ Ok line
    → bytes >>= (λ b. Some (From (record { port = port; bytes = b }))) ≡ Some line
packet-line port None line h = cc
packet-line port (Some bytes) line h = cc

port-line : (port : Option ℕ) (packet : List ℕ) (line : Line) → port_said port packet ≡ Ok line
    → port >>= (λ p. packet_bytes packet >>= (λ b. Some (From (record { port = p; bytes = b })))) ≡ Some line
port-line None packet line h = cc
port-line (Some port) packet line h = packet-line port (packet_bytes packet) line h

from-line : (here : Bool) (fields : Option (List ℕ × List ℕ)) (line : Line) → from_read here fields ≡ Ok line
    → (fields >>= (λ f. natural_up_to 65535 f.0)) >>= (λ p. (fields >>= (λ f. packet_bytes f.1)) >>= (λ b. Some (From (record { port = p; bytes = b })))) ≡ Some line
from-line here None line h = cc
from-line false (Some fields) line h = cc
from-line true (Some fields) line h = port-line (natural_up_to 65535 fields.0) fields.1 line h

words-line : (stage : Stage) (first : Option Word) (rest : List ℕ) (line : Line) → first_said stage first rest ≡ Ok line → line_of_first first rest ≡ Some line
words-line stage None rest line h = cc
words-line stage (Some (words.OfMap word)) rest line h =
    of_map-line (has_fields (fields_of word) rest) (is_allowed stage (words.OfMap word)) (line_within word rest) line h
words-line stage (Some words.Frame) rest line h = bare-line (is_nothing rest) (is_allowed stage words.Frame) Frame line h
words-line stage (Some words.From) rest line h =
    from-line (is_allowed stage words.From) (from_fields rest) line (sym (from_read-is stage (from_fields rest)) ∙ h)
words-line stage (Some words.End) rest line h = bare-line (is_nothing rest) (is_allowed stage words.End) End line h

text-line : (stage : Stage) (printable : Bool) (first : Option Word) (rest : List ℕ) (line : Line)
    → cond printable (first_said stage first rest) (Err faults.Byte) ≡ Ok line → line_of_first first rest ≡ Some line
text-line stage false first rest line h = cc
text-line stage true first rest line h = words-line stage first rest line h

pub line-said : (stage : Stage) (raw : List ℕ) (line : Line) → line_said stage raw ≡ Ok line → line_in raw ≡ Some line
line-said stage raw line h = text-line stage (are_printable (text_of raw)) (first_word (text_of raw)) (rest_of (text_of raw)) line h

-- ---- what is known after it

after-by : (r : Reading) (fault : Option LineFault) (line : Option Line) (said : Result Line LineFault) → fault ≡ fault_said r said
    → ((l : Line) → said ≡ Ok l → line ≡ Some l) → after_test r fault line ≡ after_said r said
after-by r fault line (Ok l) is says = ap (λ f. after_test r f line) is ∙ ap (after_test r (stage_fault r l)) (says l refl)
after-by r fault line (Err why) is says = ap (λ f. after_test r f line) is

pub next-said : (r : Reading) (raw : List ℕ) → is_over r.stage ≡ false → is_long raw ≡ false → next r raw ≡ after_said r (line_said r.stage raw)
next-said r raw going short =
    ap (λ b. cond b r (after_test r (fault_of r false raw) (line_in raw))) going
    ∙ after-by r (fault_of r false raw) (line_in raw) (line_said r.stage raw) (fault-said r raw short) (λ l h. line-said r.stage raw l h)

place-events : (r : Reading) (fault : Option LineFault) (line : Line) → is_refused (after_test r fault (Some line)).stage ≡ false → events_of_test fault (Some line) ≡ event_of (Some line)
place-events r None line fine = refl
place-events r (Some why) line fine = cc

events-by : (r : Reading) (fault : Option LineFault) (line : Option Line) (said : Result Line LineFault) → fault ≡ fault_said r said
    → ((l : Line) → said ≡ Ok l → line ≡ Some l) → is_refused (after_said r said).stage ≡ false → events_of_test fault line ≡ event_of (result_ok said)
events-by r fault line (Ok l) is says fine =
    ap (λ f. events_of_test f line) is ∙ ap (events_of_test (stage_fault r l)) (says l refl) ∙ place-events r (stage_fault r l) l fine
events-by r fault line (Err why) is says fine = cc

pub events-said : (r : Reading) (raw : List ℕ) → is_over r.stage ≡ false → is_long raw ≡ false → is_refused (after_said r (line_said r.stage raw)).stage ≡ false
    → events_of_line r raw ≡ event_of (result_ok (line_said r.stage raw))
events-said r raw going short fine =
    ap (λ b. cond b [] (events_of_test (fault_of r false raw) (line_in raw))) going
    ∙ events-by r (fault_of r false raw) (line_in raw) (line_said r.stage raw) (fault-said r raw short) (λ l h. line-said r.stage raw l h) fine

pub short_line : (raw : List ℕ) → length raw ≤ 512 → is_long raw ≡ false
short_line raw fits = grind (arith, nat_tests)

pub next-short : (r : Reading) (raw : List ℕ) → is_over r.stage ≡ false → length raw ≤ 512 → next r raw ≡ after_said r (line_said r.stage raw)
next-short r raw going fits = next-said r raw going (short_line raw fits)

pub events-short : (r : Reading) (raw : List ℕ) → is_over r.stage ≡ false → length raw ≤ 512 → is_refused (next r raw).stage ≡ false
    → events_of_line r raw ≡ event_of (result_ok (line_said r.stage raw))
events-short r raw going fits fine =
    events-said r raw going (short_line raw fits) (ap (λ (t : Reading). is_refused t.stage) (sym (next-short r raw going fits)) ∙ fine)

pub not_refused : (stage : Stage) → ((why : LineFault) → stage ≡ Refused why → ⊥) → is_refused stage ≡ false
not_refused Start h = refl
not_refused Map h = refl
not_refused Playing h = refl
not_refused Ended h = refl
not_refused (Refused why) h = absurd (h why refl)
