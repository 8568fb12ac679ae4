-- A packet on a line of at most 512 bytes has at most 252, and a line of such length has room for it.
use Rattle.std.proofs.Common.{◌≡◌, ℕ, ◌+◌, ◌*◌, ◌-◌, ◌%◌, ◌==◌, ◌≤◌, ◌&&◌, Bool, true, false, cond, List, [], ◌∷◌, ◌++◌, length, take, codes, bytes_eq, decimal, Option, Some, None, Result, Ok, Err, IfSome, option_map, refl, ap, subst, arith, length-append}
use Rattle.std.specs.Bool.{⊤}
use Rattle.std.specs.Result.{result_ok}
use Rattle.std.proofs.lemmas.Fmt.{decimal_nonempty}
use Rattle.std.proofs.lemmas.Slice.Eq.{bytes_eq-Decides}
use Rattle.std.proofs.lemmas.Option.{same_Some}
use lib.Seq.{length-take-le}
use Rattle.hex.specs.declared.error.FromHexError.{FromHexError}
use Rattle.hex.specs.declared.error.FromHexError.TheVariants.{OddLength}
use Rattle.hex.specs.Hex.{decode_of, decode_pairs, lower_digits}
use Rattle.hex.proofs.HexLemmas.{decode_pairs-ok, length-encode_with}
use Rattle.edge_io.specs.Numbers.{natural_up_to, is_integer}
use Rattle.edge_io.specs.Fields.{◌>>=◌, cut, field_at, field_text}
use Rattle.edge_io.proofs.Decimals.{natural-spelled}
use Rattle.edge_io.proofs.FieldTexts.{cut-whole, field_at-whole}
use Rattle.arena_map.specs.declared.map_line.MapLine.{MapLine}
use Rattle.arena_map.specs.Reading.{line_within}
use Rattle.arena_map.specs.Words.{map_word}
use Rattle.arena_map.specs.declared.map_word.MapWord.{MapWord}
use Rattle.packet_read.specs.declared.arrival.Arrival.{Arrival}
use Rattle.demo_lines.specs.declared.word.Word.{Word}
use Rattle.demo_lines.specs.declared.word.Word.TheVariants as words
use Rattle.demo_lines.specs.declared.line.Line.{Line}
use Rattle.demo_lines.specs.declared.line.Line.TheVariants.{OfMap, Frame, From, End}
use Rattle.demo_lines.specs.Packets.{packet_bytes}
use Rattle.demo_lines.specs.Spelling.{packet_text, line_text}
use Rattle.demo_lines.specs.Words.{from_fields, is_nothing}
use Rattle.demo_lines.specs.Lines.{text_of, ends_in_return, first_word, rest_of, line_of, line_of_first, line_in}

-- a packet is so short
abbrev pub IsShort : Arrival → Type 0
IsShort a = length a.bytes ≤ 252

-- a line of a recording has room for it
abbrev pub HasLine : Arrival → Type 0
HasLine a = length (line_text (From a)) ≤ 512

-- both
pub record FitsPacket (a : Arrival) : Type 0 where
  pub short : IsShort a
  pub room : HasLine a

abbrev pub FitsLine : Line → Type 0
FitsLine (OfMap line) = ⊤
FitsLine Frame = ⊤
FitsLine (From a) = FitsPacket a
FitsLine End = ⊤

-- ---- the bytes of a text

decoded_half : (text bytes : List ℕ) (odd : Bool) → cond odd (Err OddLength) (decode_pairs 0 text) ≡ Ok bytes → 2 * length bytes ≤ length text
decoded_half text bytes true h = cc
decoded_half text bytes false h = let two = (decode_pairs-ok 0 text bytes h).1 in omega (arith, two)

ok_of : (r : Result (List ℕ) FromHexError) (bytes : List ℕ) → result_ok r ≡ Some bytes → r ≡ Ok bytes
ok_of (Ok xs) bytes h = ap (λ o. Ok o) (same_Some xs bytes h)
ok_of (Err e) bytes h = cc

packet_half : (text bytes : List ℕ) (dash none : Bool) → cond dash (Some []) (cond none None (result_ok (decode_of text))) ≡ Some bytes → 2 * length bytes ≤ length text
packet_half text bytes true none h = let e : [] ≡ bytes = same_Some [] bytes h in omega (arith, ap length e)
packet_half text bytes false true h = cc
packet_half text bytes false false h = decoded_half text bytes (length text % 2 == 1) (ok_of (decode_of text) bytes h)

-- a text that says what the bytes of a packet are isn't empty
packet_some : (text bytes : List ℕ) (dash : Bool) → bytes_eq text (codes "-") ≡ dash → cond dash (Some []) (cond (length text == 0) None (result_ok (decode_of text))) ≡ Some bytes → 1 ≤ length text
packet_some text bytes true is h = let e = (bytes_eq-Decides text (codes "-")).0 is in omega (arith, ap length e)
packet_some [] bytes false is h = cc
packet_some (b ∷ text) bytes false is h = omega arith

-- it is no shorter than the packet is written
packet_spelled : (text bytes : List ℕ) → packet_bytes text ≡ Some bytes → length (packet_text bytes) ≤ length text
packet_spelled text [] is = packet_some text [] (bytes_eq text (codes "-")) refl is
packet_spelled text (b ∷ bytes) is =
    omega (arith, packet_half text (b ∷ bytes) (bytes_eq text (codes "-")) (length text == 0) is, length-encode_with lower_digits (b ∷ bytes))

-- ---- the fields of a line

-- the texts of a port and a packet, and how long both are with the spaces before them
record AreFields (rest : List ℕ) (fields : List ℕ × List ℕ) : Type 0 where
  long : length fields.0 + length fields.1 + 2 ≤ length rest

fields_long : (rest : List ℕ) (fields : List ℕ × List ℕ) → from_fields rest ≡ Some fields → AreFields rest fields
fields_long rest fields h = by_port (field_at rest) refl h
  where
    by_test : (port packet : List ℕ × List ℕ) (b : Bool) → rest ≡ field_text port.0 ++ port.1 → port.1 ≡ field_text packet.0 ++ packet.1 → cond b (Some (port.0, packet.0)) None ≡ Some fields → AreFields rest fields
    by_test port packet true e f g =
        let P : List ℕ × List ℕ → Type 0 = AreFields rest in
        subst P (same_Some (port.0, packet.0) fields g) (record {
          long = omega (
            arith,
            ap length e,
            ap length f,
            length-append (field_text port.0) port.1,
            length-append (field_text packet.0) packet.1,
            length-append (codes " ") port.0,
            length-append (codes " ") packet.0,
          );
        })
    by_test port packet false e f g = cc

    by_packet : (port : List ℕ × List ℕ) (o : Option (List ℕ × List ℕ)) → field_at port.1 ≡ o → rest ≡ field_text port.0 ++ port.1
        → o >>= (λ packet. cond (is_integer port.0 && is_nothing packet.1) (Some (port.0, packet.0)) None) ≡ Some fields → AreFields rest fields
    by_packet port None is e g = cc
    by_packet port (Some packet) is e g = by_test port packet (is_integer port.0 && is_nothing packet.1) e (field_at-whole port.1 packet is) g

    by_port : (o : Option (List ℕ × List ℕ)) → field_at rest ≡ o
        → o >>= (λ port. field_at port.1 >>= (λ packet. cond (is_integer port.0 && is_nothing packet.1) (Some (port.0, packet.0)) None)) ≡ Some fields → AreFields rest fields
    by_port None is g = cc
    by_port (Some port) is g = by_packet port (field_at port.1) refl (field_at-whole rest port is) g

-- a port and a packet were read from fields
values_fit : (rest : List ℕ) (o : Option (List ℕ × List ℕ)) → from_fields rest ≡ o → length rest ≤ 508
    → IfSome (o >>= (λ fields. natural_up_to 65535 fields.0) >>= (λ port. o >>= (λ fields. packet_bytes fields.1) >>= (λ bytes. Some (From (record { port = port; bytes = bytes }))))) FitsLine
values_fit rest None is short = tt
values_fit rest (Some fields) is short = by_port (natural_up_to 65535 fields.0) refl
  where
    by_bytes : (port : ℕ) (o : Option (List ℕ)) → natural_up_to 65535 fields.0 ≡ Some port → packet_bytes fields.1 ≡ o → IfSome (o >>= (λ bytes. Some (From (record { port = port; bytes = bytes })))) FitsLine
    by_bytes port None p e = tt
    by_bytes port (Some bytes) p e =
        let spelled = natural-spelled 65535 port fields.0 (omega arith) p in
        let most = spelled.1 in
        let some = decimal_nonempty port (omega (arith, most)) in
        let half = packet_half fields.1 bytes (bytes_eq fields.1 (codes "-")) (length fields.1 == 0) e in
        let long = (fields_long rest fields is).long in
        let front = codes "from" ++ field_text (decimal port) in
        record {
          short = omega (arith, ap length spelled.0, some, half, long, short);
          room = omega (
            arith,
            ap length spelled.0,
            packet_spelled fields.1 bytes e,
            long,
            short,
            length-append front (field_text (packet_text bytes)),
            length-append (codes "from") (field_text (decimal port)),
            length-append (codes " ") (decimal port),
            length-append (codes " ") (packet_text bytes),
          );
        }

    by_port : (o : Option ℕ) → natural_up_to 65535 fields.0 ≡ o → IfSome (o >>= (λ port. packet_bytes fields.1 >>= (λ bytes. Some (From (record { port = port; bytes = bytes }))))) FitsLine
    by_port None p = tt
    by_port (Some port) p = by_bytes port (packet_bytes fields.1) p refl

-- ---- a whole line

-- the word `from` has four bytes
from_word : (text : List ℕ) (a b c : Bool) → bytes_eq text (codes "from") ≡ b → cond a (Some words.Frame) (cond b (Some words.From) (cond c (Some words.End) (option_map words.OfMap (map_word text)))) ≡ Some words.From
    → length text ≡ 4
from_word text true b c is h = cc
from_word text false true c is h = ap length ((bytes_eq-Decides text (codes "from")).0 is)
from_word text false false true is h = cc
from_word text false false false is h = no_word (map_word text) h
  where
    no_word : (o : Option MapWord) → option_map words.OfMap o ≡ Some words.From → length text ≡ 4
    no_word None e = cc
    no_word (Some w) e = cc

text_short : (raw : List ℕ) → length raw ≤ 512 → length (text_of raw) ≤ 512
text_short raw short = by (ends_in_return raw)
  where
    by : (b : Bool) → length (cond b (take (length raw - 1) raw) raw) ≤ 512
    by true = omega (arith, length-take-le (length raw - 1) raw (omega arith), short)
    by false = short

map_fits : (o : Option MapLine) → IfSome (option_map OfMap o) FitsLine
map_fits None = tt
map_fits (Some line) = tt

word_fits : (text : List ℕ) (word : Word) → length text ≤ 512 → first_word text ≡ Some word → IfSome (line_of word (rest_of text)) FitsLine
word_fits text (words.OfMap word) short is = map_fits (line_within word (rest_of text))
word_fits text words.Frame short is = tt
word_fits text words.From short is =
    let word = (cut text).0 in
    let four = from_word word (bytes_eq word (codes "frame")) (bytes_eq word (codes "from")) (bytes_eq word (codes "end")) refl is in
    values_fit (rest_of text) (from_fields (rest_of text)) refl (omega (arith, four, short, ap length (cut-whole text), length-append word (rest_of text)))
word_fits text words.End short is = tt

first_fits : (text : List ℕ) (first : Option Word) → length text ≤ 512 → first_word text ≡ first → IfSome (line_of_first first (rest_of text)) FitsLine
first_fits text None short is = tt
first_fits text (Some word) short is = word_fits text word short is

pub line_in-fits : (raw : List ℕ) → length raw ≤ 512 → IfSome (line_in raw) FitsLine
line_in-fits raw short = first_fits (text_of raw) (first_word (text_of raw)) (text_short raw short) refl
