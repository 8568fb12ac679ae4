-- The digits of bytes, in lower case, written and read.
use Rattle.std.proofs.Common.{◌≡◌, ℕ, zero, suc, ◌+◌, ◌-◌, ◌*◌, ◌/◌, ◌%◌, ◌^◌, ◌<◌, ◌≤◌, ◌==◌, Bool, true, false, cond, ◌&&◌, ◌||◌, List, [], ◌∷◌, length, Some, None, Result, Ok, Err, refl, ap, sym, ◌∙◌, subst, arith}
use Rattle.std.specs.Prelude.{nat_le, slice_index}
use Rattle.std.specs.List.{list_all, AllByRecursion}
use Rattle.std.proofs.lemmas.Bool.Decides.{nat_tests}
use Rattle.std.proofs.lemmas.Bool.{leb-true, and_parts}
use Rattle.hex.specs.declared.error.FromHexError.{FromHexError}
use Rattle.hex.specs.declared.error.FromHexError.TheVariants.{OddLength}
use Rattle.hex.specs.Hex.{IsBytes, lower_digits, encode_with, encode_lower, decode_of, decode_pairs, pair_value, hex_digit_value, ◌>>=◌}
use Rattle.hex.proofs.HexLemmas.{decode_of-encode_lower, decode_of-even, length-encode_with}
use Rattle.edge_io.proofs.FieldTexts.{AreAbove}
use Rattle.snapshot_write.specs.declared.reply_buf.TheConstants.{REPLY_ROOM}
use Rattle.out_text.specs.Reading.{is_lower_digit, is_hex_text, without_error, bytes_in}

-- ---- written, so read

-- each digit of the table is one
lower_at : (v : ℕ) → v < 16 → is_lower_digit (slice_index lower_digits v) ≡ true
lower_at zero h = refl
lower_at (suc zero) h = refl
lower_at (suc (suc zero)) h = refl
lower_at (suc (suc (suc zero))) h = refl
lower_at (suc (suc (suc (suc zero)))) h = refl
lower_at (suc (suc (suc (suc (suc zero))))) h = refl
lower_at (suc (suc (suc (suc (suc (suc zero)))))) h = refl
lower_at (suc (suc (suc (suc (suc (suc (suc zero))))))) h = refl
lower_at (suc (suc (suc (suc (suc (suc (suc (suc zero)))))))) h = refl
lower_at (suc (suc (suc (suc (suc (suc (suc (suc (suc zero))))))))) h = refl
lower_at (suc (suc (suc (suc (suc (suc (suc (suc (suc (suc zero)))))))))) h = refl
lower_at (suc (suc (suc (suc (suc (suc (suc (suc (suc (suc (suc zero))))))))))) h = refl
lower_at (suc (suc (suc (suc (suc (suc (suc (suc (suc (suc (suc (suc zero)))))))))))) h = refl
lower_at (suc (suc (suc (suc (suc (suc (suc (suc (suc (suc (suc (suc (suc zero))))))))))))) h = refl
lower_at (suc (suc (suc (suc (suc (suc (suc (suc (suc (suc (suc (suc (suc (suc zero)))))))))))))) h = refl
lower_at (suc (suc (suc (suc (suc (suc (suc (suc (suc (suc (suc (suc (suc (suc (suc zero))))))))))))))) h = refl
lower_at (suc (suc (suc (suc (suc (suc (suc (suc (suc (suc (suc (suc (suc (suc (suc (suc n)))))))))))))))) h = absurd (omega (arith, h))

-- the digits are in lower case
lower_text : (bytes : List ℕ) → AllByRecursion (λ b. b < 2 ^ 8) bytes → list_all is_lower_digit (encode_lower bytes) ≡ true
unfolding encode_with
lower_text [] are = refl
lower_text (b ∷ bytes) are =
    let fits : b < 256 = are.0 in
    rw (lower_at (b / 16) (omega (arith, fits)), lower_at (b % 16) (omega arith), lower_text bytes are.1) refl

bytes_at : (bytes : List ℕ) → AllByRecursion (λ b. b < 2 ^ 8) bytes → IsBytes bytes
bytes_at [] are i = omega arith
bytes_at (b ∷ bytes) are zero = are.0
bytes_at (b ∷ bytes) are (suc i) = bytes_at bytes are.1 i

-- the digits of bytes are read as the bytes
pub hex-back : (bytes : List ℕ) → 1 ≤ length bytes → length bytes ≤ REPLY_ROOM → AllByRecursion (λ b. b < 2 ^ 8) bytes
    → bytes_in (encode_lower bytes) ≡ Some bytes
hex-back bytes some most are =
    let long = length-encode_with lower_digits bytes in
    let least : nat_le 2 (length (encode_lower bytes)) ≡ true = grind (arith, nat_tests, long, some) in
    let fits : nat_le (length (encode_lower bytes)) (2 * REPLY_ROOM) ≡ true = grind (arith, nat_tests, long, most) in
    rw (least, fits, lower_text bytes are, decode_of-encode_lower bytes (bytes_at bytes are)) refl

-- ---- read, so written

-- the value of a digit in lower case
record IsDigit (c : ℕ) : Type 0 where
  value : ℕ
  below : value < 16
  reads : hex_digit_value c ≡ Some value
  writes : slice_index lower_digits value ≡ c

digit : (k : ℕ) → k ≤ 9 → IsDigit (48 + k)
digit zero h = record { value = 0; below = omega arith; reads = refl; writes = refl }
digit (suc zero) h = record { value = 1; below = omega arith; reads = refl; writes = refl }
digit (suc (suc zero)) h = record { value = 2; below = omega arith; reads = refl; writes = refl }
digit (suc (suc (suc zero))) h = record { value = 3; below = omega arith; reads = refl; writes = refl }
digit (suc (suc (suc (suc zero)))) h = record { value = 4; below = omega arith; reads = refl; writes = refl }
digit (suc (suc (suc (suc (suc zero))))) h = record { value = 5; below = omega arith; reads = refl; writes = refl }
digit (suc (suc (suc (suc (suc (suc zero)))))) h = record { value = 6; below = omega arith; reads = refl; writes = refl }
digit (suc (suc (suc (suc (suc (suc (suc zero))))))) h = record { value = 7; below = omega arith; reads = refl; writes = refl }
digit (suc (suc (suc (suc (suc (suc (suc (suc zero)))))))) h = record { value = 8; below = omega arith; reads = refl; writes = refl }
digit (suc (suc (suc (suc (suc (suc (suc (suc (suc zero))))))))) h = record { value = 9; below = omega arith; reads = refl; writes = refl }
digit (suc (suc (suc (suc (suc (suc (suc (suc (suc (suc n)))))))))) h = absurd (omega (arith, h))

letter : (k : ℕ) → k ≤ 5 → IsDigit (97 + k)
letter zero h = record { value = 10; below = omega arith; reads = refl; writes = refl }
letter (suc zero) h = record { value = 11; below = omega arith; reads = refl; writes = refl }
letter (suc (suc zero)) h = record { value = 12; below = omega arith; reads = refl; writes = refl }
letter (suc (suc (suc zero))) h = record { value = 13; below = omega arith; reads = refl; writes = refl }
letter (suc (suc (suc (suc zero)))) h = record { value = 14; below = omega arith; reads = refl; writes = refl }
letter (suc (suc (suc (suc (suc zero))))) h = record { value = 15; below = omega arith; reads = refl; writes = refl }
letter (suc (suc (suc (suc (suc (suc n)))))) h = absurd (omega (arith, h))

digit_is : (c : ℕ) → is_lower_digit c ≡ true → IsDigit c
digit_is c lower = by (nat_le 48 c && nat_le c 57) refl lower
  where
    by : (b : Bool) → (nat_le 48 c && nat_le c 57) ≡ b → (b || (nat_le 97 c && nat_le c 102)) ≡ true → IsDigit c
    by true e h =
        let parts = and_parts (nat_le 48 c) (nat_le c 57) e in
        let low = leb-true 48 c parts.0 in
        let high = leb-true c 57 parts.1 in
        let same : 48 + (c - 48) ≡ c = omega (arith, low) in
        subst (λ (n : ℕ). IsDigit n) same (digit (c - 48) (omega (arith, high)))
    by false e h =
        let parts = and_parts (nat_le 97 c) (nat_le c 102) h in
        let low = leb-true 97 c parts.0 in
        let high = leb-true c 102 parts.1 in
        let same : 97 + (c - 97) ≡ c = omega (arith, low) in
        subst (λ (n : ℕ). IsDigit n) same (letter (c - 97) (omega (arith, high)))

-- the text is that of bytes
record IsTextOf (text bytes : List ℕ) : Type 0 where
  spelled : text ≡ encode_lower bytes
  are : AllByRecursion (λ b. b < 2 ^ 8) bytes

-- what two digits are read as
pair_ok : (h l i : ℕ) (high low : ℕ) → hex_digit_value high ≡ Some h → hex_digit_value low ≡ Some l
    → pair_value high low i ≡ Ok (h * 16 + l)
pair_ok h l i high low is also = rw (is, also) refl

-- two digits and the text of other bytes are the text of a byte and the others
two_on : (h l high low : ℕ) (rest bytes : List ℕ) → h < 16 → l < 16 → slice_index lower_digits h ≡ high
    → slice_index lower_digits l ≡ low → IsTextOf rest bytes → IsTextOf (high ∷ low ∷ rest) ((h * 16 + l) ∷ bytes)
unfolding encode_with
two_on h l high low rest bytes hb lb he le text =
    let first : (h * 16 + l) / 16 ≡ h = omega (arith, hb, lb) in
    let second : (h * 16 + l) % 16 ≡ l = omega (arith, hb, lb) in
    record {
      spelled = rw (first, second, he, le, sym text.spelled) refl;
      are = (omega (arith, hb, lb), text.are);
    }

-- what is read of a byte and the others
rest_on : (b : ℕ) (bytes : List ℕ) (P : List ℕ → Type 0) (r : Result (List ℕ) FromHexError)
    → ((others : List ℕ) → r ≡ Ok others → P (b ∷ others)) → (r >>= (λ others. Ok (b ∷ others))) ≡ Ok bytes → P bytes
rest_on b bytes P (Ok others) on e =
    let same : b ∷ others ≡ bytes = cc in
    subst P same (on others refl)
rest_on b bytes P (Err x) on e = absurd cc

-- a text in lower case that is read as bytes is theirs
text_of_pairs : (i : ℕ) (text bytes : List ℕ) → list_all is_lower_digit text ≡ true → decode_pairs i text ≡ Ok bytes → IsTextOf text bytes
unfolding decode_pairs encode_with
text_of_pairs i [] bytes lower e =
    let none : [] ≡ bytes = cc in
    subst (λ (xs : List ℕ). IsTextOf [] xs) none (record { spelled = refl; are = tt })
text_of_pairs i (one ∷ []) bytes lower e = absurd cc
text_of_pairs i (high ∷ low ∷ rest) bytes lower e =
    let first = and_parts (is_lower_digit high) (is_lower_digit low && list_all is_lower_digit rest) lower in
    let second = and_parts (is_lower_digit low) (list_all is_lower_digit rest) first.1 in
    let h = digit_is high first.0 in
    let l = digit_is low second.0 in
    let pair = pair_ok h.value l.value i high low h.reads l.reads in
    rest_on (h.value * 16 + l.value) bytes (λ (xs : List ℕ). IsTextOf (high ∷ low ∷ rest) xs) (decode_pairs (i + 2) rest)
    (λ others is. two_on h.value l.value high low rest others h.below l.below h.writes l.writes
    (text_of_pairs (i + 2) rest others second.1 is))
    (rw pair at e)

some_same : (a b : List ℕ) → Some a ≡ Some b → a ≡ b
some_same a b e = cc

-- a text that is read has an even length
even_text : (text bytes : List ℕ) → decode_of text ≡ Ok bytes → length text % 2 ≡ 0
even_text text bytes e = by (length text % 2 == 1) refl e
  where
    by : (odd : Bool) → (length text % 2 == 1) ≡ odd → cond odd (Err OddLength) (decode_pairs 0 text) ≡ Ok bytes → length text % 2 ≡ 0
    by true f g = absurd cc
    by false f g = grind (arith, nat_tests)

-- the bytes that a text is read as are a snapshot's, and the text is theirs
pub record IsHexOf (text bytes : List ℕ) : Type 0 where
  pub spelled : text ≡ encode_lower bytes
  pub some : 1 ≤ length bytes
  pub most : length bytes ≤ REPLY_ROOM
  pub are : AllByRecursion (λ b. b < 2 ^ 8) bytes

pub hex-sound : (text bytes : List ℕ) → bytes_in text ≡ Some bytes → IsHexOf text bytes
hex-sound text bytes e = by (is_hex_text text) refl e
  where
    decoded : (r : Result (List ℕ) FromHexError) → without_error r ≡ Some bytes → r ≡ Ok bytes
    decoded (Ok xs) g = ap (λ o. Ok o) (some_same xs bytes g)
    decoded (Err x) g = absurd cc

    by : (b : Bool) → is_hex_text text ≡ b → cond b (without_error (decode_of text)) None ≡ Some bytes → IsHexOf text bytes
    by false f g = absurd cc
    by true f g =
        let parts = and_parts (nat_le 2 (length text) && nat_le (length text) (2 * REPLY_ROOM)) (list_all is_lower_digit text) f in
        let ends = and_parts (nat_le 2 (length text)) (nat_le (length text) (2 * REPLY_ROOM)) parts.0 in
        let least = leb-true 2 (length text) ends.0 in
        let most = leb-true (length text) (2 * REPLY_ROOM) ends.1 in
        let ok = decoded (decode_of text) g in
        let even = even_text text bytes ok in
        let is = text_of_pairs 0 text bytes parts.1 (sym (decode_of-even text even) ∙ ok) in
        let long = ap length is.spelled ∙ length-encode_with lower_digits bytes in
        record { spelled = is.spelled; some = omega (arith, least, long); most = omega (arith, most, long); are = is.are }

-- no digit is a space
lower_above : (text : List ℕ) → list_all is_lower_digit text ≡ true → AreAbove 32 text
lower_above [] lower = tt
lower_above (c ∷ text) lower =
    let parts = and_parts (is_lower_digit c) (list_all is_lower_digit text) lower in
    (by (nat_le 48 c && nat_le c 57) refl parts.0, lower_above text parts.1)
  where
    by : (b : Bool) → (nat_le 48 c && nat_le c 57) ≡ b → (b || (nat_le 97 c && nat_le c 102)) ≡ true → 32 < c
    by true e h = let low = leb-true 48 c (and_parts (nat_le 48 c) (nat_le c 57) e).0 in omega (arith, low)
    by false e h = let low = leb-true 97 c (and_parts (nat_le 97 c) (nat_le c 102) h).0 in omega (arith, low)

pub hex-above : (bytes : List ℕ) → AllByRecursion (λ b. b < 2 ^ 8) bytes → AreAbove 32 (encode_lower bytes)
hex-above bytes are = lower_above (encode_lower bytes) (lower_text bytes are)
