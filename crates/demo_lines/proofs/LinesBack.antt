-- A line is read back exactly where it can be written.
use Rattle.std.proofs.Common.{◌≡◌, ℕ, ◌≤◌, ◌<◌, ◌==◌, Bool, true, false, List, [], length, Option, Some, None, Result, Ok, Err, option_map, cond, codes, bytes_eq, refl, sym, ap, ◌∙◌, subst, arith}
use Rattle.std.specs.Option.{ok_or}
use Rattle.std.specs.Result.{result_ok}
use Rattle.std.proofs.lemmas.Bool.Decides.{nat_tests}
use Rattle.std.proofs.lemmas.List.Elements.{All-from_get_or, All-nil}
use Rattle.std.proofs.lemmas.Option.{same_Some}
use Rattle.hex.specs.Hex.{decode_of}
use Rattle.hex.specs.declared.error.FromHexError.{FromHexError}
use Rattle.hex.proofs.HexLemmas.{decode_of-ok}
use Rattle.edge_io.specs.Lines.{AreBytes}
use Rattle.edge_io.specs.Numbers.{natural_up_to}
use Rattle.edge_io.specs.Fields.{◌>>=◌, cut}
use Rattle.edge_io.proofs.Decimals.{natural-spelled}
use Rattle.arena_map.specs.declared.map_line.MapLine.{MapLine}
use Rattle.arena_map.specs.declared.map_word.MapWord.{MapWord}
use Rattle.arena_map.specs.MapLines.{IsWithinLimits}
use Rattle.arena_map.specs.Words.{map_word, fields_of}
use Rattle.arena_map.specs.Reading.{has_fields, line_within, line_of_first}
use Rattle.arena_map.specs.Spelling.{map_line_text}
use Rattle.arena_map.proofs.LinesSound.{line-sound}
use Rattle.demo_lines.specs.declared.word.Word.{Word}
use Rattle.demo_lines.specs.declared.word.Word.TheVariants as words
use Rattle.demo_lines.specs.declared.line.Line.{Line}
use Rattle.demo_lines.specs.declared.line.Line.TheVariants.{OfMap, Frame, From, End}
use Rattle.demo_lines.specs.Packets.{packet_bytes}
use Rattle.demo_lines.specs.Words.{word_in, from_fields, has_form}
use Rattle.demo_lines.specs.Lines.{text_of, first_word, rest_of, line_of}
use Rattle.demo_lines.specs.Lines as lines
use Rattle.demo_lines.specs.Faults.{is_long}
use Rattle.demo_lines.specs.Spelling.{line_text, IsLine}
use Rattle.demo_lines.specs.Laws.{LinesReadBack, IsReadAs}
use Rattle.demo_lines.proofs.Written.{line_reads, is_read_as}

-- ---- a packet's bytes

packet_are : (text bytes : List ℕ) → packet_bytes text ≡ Some bytes → AreBytes bytes
packet_are text bytes h = by (bytes_eq text (codes "-")) (length text == 0) h
  where
    read : (o : Result (List ℕ) FromHexError) → decode_of text ≡ o → result_ok o ≡ Some bytes → AreBytes bytes
    read (Ok bs) is e =
        let one = same_Some bs bytes e in
        subst AreBytes one (All-from_get_or (λ b. b < 256) bs 0 (λ i within. (decode_of-ok text bs is).3 i))
    read (Err x) is e = cc

    by : (dash none : Bool) → cond dash (Some []) (cond none None (result_ok (decode_of text))) ≡ Some bytes → AreBytes bytes
    by true none e = subst AreBytes (same_Some [] bytes e) (All-nil (λ b. b < 256))
    by false true e = cc
    by false false e = read (decode_of text) refl e

-- ---- what is read was written so

-- the form of a map line, from that of its word
of_map-within : (o : Option MapLine) (line : MapLine) → option_map OfMap o ≡ Some (OfMap line) → o ≡ Some line
of_map-within None line h = cc
of_map-within (Some l) line h = let one : l ≡ line = cc in ap Some one

of_map-word : (o : Option MapWord) (word : MapWord) → option_map words.OfMap o ≡ Some (words.OfMap word) → o ≡ Some word
of_map-word None word h = cc
of_map-word (Some w) word h = let one : w ≡ word = cc in ap Some one

map_word-in : (text : List ℕ) (word : MapWord) → word_in text ≡ Some (words.OfMap word) → map_word text ≡ Some word
map_word-in text word h = by (bytes_eq text (codes "frame")) (bytes_eq text (codes "from")) (bytes_eq text (codes "end")) h
  where
    by : (frame from end : Bool)
        → cond frame (Some words.Frame) (cond from (Some words.From) (cond end (Some words.End) (option_map words.OfMap (map_word text)))) ≡ Some (words.OfMap word)
        → map_word text ≡ Some word
    by true from end e = cc
    by false true end e = cc
    by false false true e = cc
    by false false false e = of_map-word (map_word text) word e

map_line-limits : (line : MapLine) (word : MapWord) → word_in (cut (map_line_text line)).0 ≡ Some (words.OfMap word)
    → has_fields (fields_of word) (cut (map_line_text line)).1 ≡ true → option_map OfMap (line_within word (cut (map_line_text line)).1) ≡ Some (OfMap line)
    → IsWithinLimits line
map_line-limits line word first form says =
    let text = map_line_text line in
    let within = of_map-within (line_within word (cut text).1) line says in
    let read = ap (λ o. line_of_first o (cut text).1) (map_word-in (cut text).0 word first)
    ∙ ap (λ b. cond b (ok_or (line_within word (cut text).1) 6) (Err 4)) form
    ∙ ap (λ o. ok_or o 6) within in
    (line-sound text line read).1

-- what holds of a line that was read, but for its length and the limits of the map
abbrev IsSound : Line → Type 0
IsSound (OfMap line) = Unit {0}
IsSound Frame = Unit {0}
IsSound (From a) = (a.port < 65536) × AreBytes a.bytes
IsSound End = Unit {0}

port_sound : (text : List ℕ) (port : ℕ) → natural_up_to 65535 text ≡ Some port → port < 65536
port_sound text port is = let low = (natural-spelled 65535 port text (omega arith) is).1 in omega (arith, low)

values-sound : (port_text packet : List ℕ) (port : Option ℕ) (bytes : Option (List ℕ)) (line : Line) → natural_up_to 65535 port_text ≡ port → packet_bytes packet ≡ bytes
    → port >>= (λ p. bytes >>= (λ b. Some (From (record { port = p; bytes = b })))) ≡ Some line → IsSound line
values-sound port_text packet None bytes line p q h = cc
values-sound port_text packet (Some port) None line p q h = cc
values-sound port_text packet (Some port) (Some bytes) line p q h = subst IsSound (same_Some _ line h) (port_sound port_text port p, packet_are packet bytes q)

from-sound : (fields : Option (List ℕ × List ℕ)) (line : Line)
    → (fields >>= (λ f. natural_up_to 65535 f.0)) >>= (λ p. (fields >>= (λ f. packet_bytes f.1)) >>= (λ b. Some (From (record { port = p; bytes = b })))) ≡ Some line → IsSound line
from-sound None line h = cc
from-sound (Some fs) line h = values-sound fs.0 fs.1 (natural_up_to 65535 fs.0) (packet_bytes fs.1) line refl refl h

map-sound : (within : Option MapLine) (line : Line) → option_map OfMap within ≡ Some line → IsSound line
map-sound None line h = cc
map-sound (Some l) line h = subst IsSound (same_Some (OfMap l) line h) tt

word-sound : (word : Word) (rest : List ℕ) (line : Line) → line_of word rest ≡ Some line → IsSound line
word-sound (words.OfMap word) rest line h = map-sound (line_within word rest) line h
word-sound words.Frame rest line h = subst IsSound (same_Some Frame line h) tt
word-sound words.From rest line h = from-sound (from_fields rest) line h
word-sound words.End rest line h = subst IsSound (same_Some End line h) tt

-- ---- the limits of the map

-- an arrival is no line of the map
values-no_map : (port : Option ℕ) (bytes : Option (List ℕ)) (line : MapLine) (A : Type 0)
    → port >>= (λ p. bytes >>= (λ b. Some (From (record { port = p; bytes = b })))) ≡ Some (OfMap line) → A
values-no_map None bytes line A h = cc
values-no_map (Some port) None line A h = cc
values-no_map (Some port) (Some bytes) line A h = cc

from-no_map : (fields : Option (List ℕ × List ℕ)) (line : MapLine) (A : Type 0)
    → (fields >>= (λ f. natural_up_to 65535 f.0)) >>= (λ p. (fields >>= (λ f. packet_bytes f.1)) >>= (λ b. Some (From (record { port = p; bytes = b })))) ≡ Some (OfMap line) → A
from-no_map None line A h = cc
from-no_map (Some fs) line A h = values-no_map (natural_up_to 65535 fs.0) (packet_bytes fs.1) line A h

map_line-within : (line : MapLine) (word : Word) → word_in (cut (map_line_text line)).0 ≡ Some word → has_form word (cut (map_line_text line)).1 ≡ true
    → line_of word (cut (map_line_text line)).1 ≡ Some (OfMap line) → IsWithinLimits line
map_line-within line (words.OfMap word) first form says = map_line-limits line word first form says
map_line-within line words.Frame first form says = cc
map_line-within line words.From first form says = from-no_map (from_fields (cut (map_line_text line)).1) line _ says
map_line-within line words.End first form says = cc

-- ---- the law

long_fits : (raw : List ℕ) → is_long raw ≡ false → length raw ≤ 512
long_fits raw h = grind (arith, nat_tests)

-- the text of a line ends in no carriage return, so what is read is all of it
read-line : (line : Line) (text : List ℕ) → text ≡ line_text line → IsReadAs (line_text line) line → IsSound line
read-line line text is read =
    word-sound read.word (rest_of (text_of (line_text line))) line
    (ap (λ o. lines.line_of_first o (rest_of (text_of (line_text line)))) (sym read.first) ∙ read.says)

can_be_written : (line : Line) → IsReadAs (line_text line) line → IsLine line
can_be_written (OfMap line) read =
    let own = read.whole in
    let says = ap (λ o. lines.line_of_first o (rest_of (text_of (map_line_text line)))) (sym read.first) ∙ read.says in
    map_line-within line read.word
    (ap first_word (sym own) ∙ read.first)
    (ap (λ text. has_form read.word (rest_of text)) (sym own) ∙ read.form)
    (ap (λ text. line_of read.word (rest_of text)) (sym own) ∙ says)
can_be_written Frame read = tt
can_be_written (From a) read =
    let sound = read-line (From a) (line_text (From a)) refl read in
    record { port = sound.0; bytes = sound.1; fits = long_fits (line_text (From a)) read.short }
can_be_written End read = tt

pub lines_read_back : LinesReadBack
lines_read_back line = (can_be_written line, λ is. is_read_as (line_text line) line (line_reads line is))
