-- What a line of a recording says: a line of the map with its numbers within their limits, or a packet with bytes.
use Rattle.std.proofs.Common.{ℕ, ◌^◌, ◌<◌, ◌≤◌, ◌%◌, ◌==◌, Bool, true, false, cond, List, [], length, codes, bytes_eq, Option, Some, None, Result, Ok, Err, IfSome, option_map, ◌≡◌, refl, arith}
use Rattle.std.specs.Bool.{⊤}
use Rattle.std.specs.Result.{result_ok}
use Rattle.std.proofs.lemmas.List.Elements.{All-nil, All-from_get_or}
use Rattle.hex.specs.declared.error.FromHexError.{FromHexError}
use Rattle.hex.specs.declared.error.FromHexError.TheVariants.{OddLength}
use Rattle.hex.specs.Hex.{decode_of, decode_pairs}
use Rattle.hex.proofs.HexLemmas.{decode_pairs-ok}
use Rattle.packet_read.specs.Laws.{AreBytes}
use Rattle.packet_read.specs.declared.arrival.Arrival.{Arrival}
use Rattle.edge_io.specs.Fields.{◌>>=◌}
use Rattle.edge_io.specs.Numbers.{natural_up_to}
use Rattle.edge_io.proofs.Decimals.{natural-spelled}
use Rattle.arena_map.specs.declared.map_line.MapLine.{MapLine}
use Rattle.arena_map.specs.MapLines.{IsWithinLimits}
use Rattle.arena_map.specs.Reading.{line_within}
use Rattle.arena_map.proofs.LinesSound.{within-read}
use Rattle.demo_lines.specs.declared.word.Word.{Word}
use Rattle.demo_lines.specs.declared.word.Word.TheVariants as words
use Rattle.demo_lines.specs.declared.line.Line.{Line}
use Rattle.demo_lines.specs.declared.line.Line.TheVariants.{OfMap, Frame, From, End}
use Rattle.demo_lines.specs.Packets.{packet_bytes}
use Rattle.demo_lines.specs.Words.{from_fields}
use Rattle.demo_lines.specs.Lines.{text_of, first_word, rest_of, port_in, bytes_in, line_of, line_of_first, line_in}
use Rattle.plain_server.specs.Entries.{HasBytes}

-- ---- what hexadecimal text spells

-- the bytes that are decoded, where they are
abbrev OkBytes : Result (List ℕ) FromHexError → Type 0
OkBytes (Ok bytes) = AreBytes bytes
OkBytes (Err e) = ⊤

abbrev SomeBytes : Option (List ℕ) → Type 0
SomeBytes None = ⊤
SomeBytes (Some bytes) = AreBytes bytes

ok_bytes : (r : Result (List ℕ) FromHexError) → ((bytes : List ℕ) → r ≡ Ok bytes → AreBytes bytes) → OkBytes r
ok_bytes (Ok bytes) h = h bytes refl
ok_bytes (Err e) h = tt

ok_choice : (b : Bool) (x y : Result (List ℕ) FromHexError) → OkBytes x → OkBytes y → OkBytes (cond b x y)
ok_choice true x y p q = p
ok_choice false x y p q = q

decoded_are_bytes : (text : List ℕ) → OkBytes (decode_of text)
decoded_are_bytes text =
    let pairs = ok_bytes (decode_pairs 0 text) (λ bytes is. All-from_get_or (λ b. b < 2 ^ 8) bytes 0 (λ i within. (decode_pairs-ok 0 text bytes is).2 i)) in
    ok_choice (length text % 2 == 1) (Err OddLength) (decode_pairs 0 text) tt pairs

some_bytes : (r : Result (List ℕ) FromHexError) → OkBytes r → SomeBytes (result_ok r)
some_bytes (Ok bytes) are = are
some_bytes (Err e) are = tt

some_choice : (b : Bool) (x y : Option (List ℕ)) → SomeBytes x → SomeBytes y → SomeBytes (cond b x y)
some_choice true x y p q = p
some_choice false x y p q = q

packet_has_bytes : (text : List ℕ) → SomeBytes (packet_bytes text)
packet_has_bytes text =
    let decoded = some_bytes (decode_of text) (decoded_are_bytes text) in
    some_choice (bytes_eq text (codes "-")) (Some []) (cond (length text == 0) None (result_ok (decode_of text))) (All-nil (λ b. b < 2 ^ 8))
    (some_choice (length text == 0) None (result_ok (decode_of text)) tt decoded)

-- ---- what a line says

-- a packet has bytes, and comes from a port of 16 bits
pub record IsSoundPacket (a : Arrival) : Type 0 where
  pub bytes : HasBytes a
  pub port : a.port < 65536

-- the numbers of a line of the map are within their limits, and a packet is sound
abbrev pub IsSound : Line → Type 0
IsSound (OfMap line) = IsWithinLimits line
IsSound Frame = ⊤
IsSound (From a) = IsSoundPacket a
IsSound End = ⊤

map-sound : (o : Option MapLine) → ((line : MapLine) → o ≡ Some line → IsWithinLimits line) → IfSome (option_map OfMap o) IsSound
map-sound None h = tt
map-sound (Some line) h = h line refl

fields-bytes : (o : Option (List ℕ × List ℕ)) → SomeBytes (o >>= (λ fields. packet_bytes fields.1))
fields-bytes None = tt
fields-bytes (Some fields) = packet_has_bytes fields.1

small_port : (o : Option ℕ) → ((n : ℕ) → o ≡ Some n → n ≤ 65535) → IfSome o (λ n. n ≤ 65535)
small_port None most = tt
small_port (Some n) most = most n refl

fields-port : (o : Option (List ℕ × List ℕ)) → IfSome (o >>= (λ fields. natural_up_to 65535 fields.0)) (λ n. n ≤ 65535)
fields-port None = tt
fields-port (Some fields) = small_port (natural_up_to 65535 fields.0) (λ n is. (natural-spelled 65535 n fields.0 (omega arith) is).1)

values-sound : (port : Option ℕ) (bytes : Option (List ℕ)) → IfSome port (λ n. n ≤ 65535) → SomeBytes bytes → IfSome (port >>= (λ p. bytes >>= (λ b. Some (From (record { port = p; bytes = b }))))) IsSound
values-sound None bytes most are = tt
values-sound (Some port) None most are = tt
values-sound (Some port) (Some bytes) most are = record { bytes = are; port = omega (arith, most) }

word-sound : (word : Word) (rest : List ℕ) → IfSome (line_of word rest) IsSound
word-sound (words.OfMap word) rest = map-sound (line_within word rest) (λ line is. (within-read word rest line is).limits)
word-sound words.Frame rest = tt
word-sound words.From rest = values-sound (port_in rest) (bytes_in rest) (fields-port (from_fields rest)) (fields-bytes (from_fields rest))
word-sound words.End rest = tt

first-sound : (first : Option Word) (rest : List ℕ) → IfSome (line_of_first first rest) IsSound
first-sound None rest = tt
first-sound (Some word) rest = word-sound word rest

pub line_in-sound : (raw : List ℕ) → IfSome (line_in raw) IsSound
line_in-sound raw = first-sound (first_word (text_of raw)) (rest_of (text_of raw))
