-- A packet's bytes and their text.
use Rattle.std.proofs.Common.{◌≡◌, ℕ, ◌*◌, ◌<◌, ◌==◌, false, List, [], ◌∷◌, length, Some, None, Ok, codes, cond, refl, ap, ◌∙◌, arith, ◌≤◌, ◌⊎◌, inl, inr, get_or}
use Rattle.std.specs.Str.{bytes_eq}
use Rattle.std.specs.Result.{result_ok}
use Rattle.std.proofs.lemmas.Bool.{cases_lt}
use Rattle.std.proofs.lemmas.Bool.Decides.{nat_tests}
use Rattle.std.proofs.lemmas.List.{get_or_past}
use Rattle.std.proofs.Math.Bool.{and-false}
use Rattle.edge_io.specs.Lines.{AreBytes}
use Rattle.hex.specs.Hex.{IsBytes, decode_of, encode_lower, encode_upper, lower_digits, upper_digits}
use Rattle.hex.proofs.HexLemmas.{length-encode_with, decode_of-encode_lower, decode_of-encode_upper}
use Rattle.demo_lines.specs.Packets.{packet_bytes}

-- a text of an even length isn't the dash
no_dash : (text : List ℕ) (n : ℕ) → length text ≡ 2 * n → bytes_eq text (codes "-") ≡ false
no_dash [] n even = refl
no_dash (d ∷ []) n even = absurd (omega arith)
no_dash (d ∷ e ∷ ds) n even = and-false (d == 45)

byte_at : (bytes : List ℕ) (i : ℕ) → AreBytes bytes → ((i < length bytes) ⊎ (length bytes ≤ i)) → get_or bytes i 0 < 256
byte_at bytes i are (inl within) = are i 0 within
byte_at bytes i are (inr past) = let none = get_or_past bytes i 0 past in omega arith

is_bytes : (bytes : List ℕ) → AreBytes bytes → IsBytes bytes
is_bytes bytes are = λ i. byte_at bytes i are (cases_lt i (length bytes))

-- digits that spell bytes are read as those bytes
pub packet_bytes-read : (text bytes : List ℕ) → length text ≡ 2 * length bytes → 0 < length bytes → decode_of text ≡ Ok bytes → packet_bytes text ≡ Some bytes
packet_bytes-read text bytes even some read =
    let full : (length text == 0) ≡ false = grind (arith, nat_tests) in
    ap (λ b. cond b (Some []) (cond (length text == 0) None (result_ok (decode_of text)))) (no_dash text (length bytes) even)
    ∙ ap (λ b. cond b None (result_ok (decode_of text))) full
    ∙ ap result_ok read

pub packet_bytes-lower : (bytes : List ℕ) → AreBytes bytes → 0 < length bytes → packet_bytes (encode_lower bytes) ≡ Some bytes
packet_bytes-lower bytes are some = packet_bytes-read (encode_lower bytes) bytes (length-encode_with lower_digits bytes) some (decode_of-encode_lower bytes (is_bytes bytes are))

pub packet_bytes-upper : (bytes : List ℕ) → AreBytes bytes → 0 < length bytes → packet_bytes (encode_upper bytes) ≡ Some bytes
packet_bytes-upper bytes are some = packet_bytes-read (encode_upper bytes) bytes (length-encode_with upper_digits bytes) some (decode_of-encode_upper bytes (is_bytes bytes are))
