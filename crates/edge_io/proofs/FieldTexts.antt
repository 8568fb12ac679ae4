-- Fields that were written are read as what was written, and fields that were read were written so.
use Rattle.std.proofs.Common.{◌≡◌, ℕ, suc, ◌+◌, ◌^◌, ◌≤◌, ◌<◌, ◌==◌, Bool, true, false, not, List, [], ◌∷◌, ◌++◌, length, take, drop, unwrap_or, Some, None, cond, nat_lt, refl, sym, ap, ◌∙◌, arith, ℤ, pos, negsuc, decimal, unsigned_abs, length-append}
use Rattle.std.specs.Fmt.{signed_decimal}
use Rattle.std.specs.List.{position_or_len, AllByRecursion}
use Rattle.std.specs.Str.{all_ascii_digits}
use Rattle.std.proofs.lemmas.Bool.Decides.{nat_tests}
use Rattle.std.proofs.lemmas.Fmt.{digits_decimal}
use Rattle.std.proofs.lemmas.List.{take-append-drop}
use Rattle.std.proofs.Math.Seq.{take-append_seam, drop-append_seam}
use Rattle.std.proofs.lemmas.Bool.{and_parts}
use Rattle.edge_io.specs.Numbers.{is_digit}
use Rattle.edge_io.specs.Fields.{is_space, cut, field_at, field_text}
use Rattle.edge_io.proofs.Decimals.{own}

-- bytes above a number
abbrev pub AreAbove : ℕ → List ℕ → Type 0
AreAbove low bytes = AllByRecursion (λ b. low < b) bytes

pub digit_above : (d : ℕ) → is_digit d ≡ true → 32 < d
digit_above d h = grind (arith, nat_tests)

digits_above : (ds : List ℕ) → all_ascii_digits ds ≡ true → AreAbove 32 ds
digits_above [] h = tt
digits_above (d ∷ ds) h = let parts = and_parts (is_digit d) (all_ascii_digits ds) h in (digit_above d parts.0, digits_above ds parts.1)

-- a number's text is above the space
pub decimal_above : (n : ℕ) → n < 2 ^ 64 → AreAbove 32 (decimal n)
decimal_above n small = digits_above (decimal n) (digits_decimal own n small)

pub signed_above : (z : ℤ) → unsigned_abs z < 2 ^ 64 → AreAbove 32 (signed_decimal z)
signed_above (pos n) small = decimal_above n small
signed_above (negsuc n) small = (omega arith, decimal_above (suc n) small)

-- ---- written, and then read

-- where a field ends: there is nothing more, or a space
abbrev pub IsEnd : List ℕ → Type 0
IsEnd [] = Unit {0}
IsEnd (b ∷ bytes) = b ≡ 32

first_space : (field rest : List ℕ) → AreAbove 32 field → IsEnd rest → position_or_len is_space (field ++ rest) ≡ length field
first_space [] [] above ends = refl
first_space [] (b ∷ rest) above ends = ap (λ c. cond (not (c == 32)) (1 + position_or_len is_space rest) 0) ends
first_space (b ∷ field) rest above ends =
    let ink : 32 < b = above.0 in
    let other : (b == 32) ≡ false = grind (arith, nat_tests) in
    let more = first_space field rest above.1 ends in
    ap (λ c. cond (not c) (1 + position_or_len is_space (field ++ rest)) 0) other ∙ omega (arith, more)

or_length : (n m : ℕ) (b : Bool) → nat_lt n m ≡ b → n ≤ m → unwrap_or (cond b (Some n) None) m ≡ n
or_length n m true is h = refl
or_length n m false is h = grind (arith, nat_tests)

-- a field and what follows it
pub cut-field : (field rest : List ℕ) → AreAbove 32 field → IsEnd rest → cut (field ++ rest) ≡ (field, rest)
cut-field field rest above ends =
    let first = first_space field rest above ends in
    let within : position_or_len is_space (field ++ rest) ≤ length (field ++ rest) = omega (arith, first, length-append field rest) in
    let at = or_length (position_or_len is_space (field ++ rest)) (length (field ++ rest)) (nat_lt (position_or_len is_space (field ++ rest)) (length (field ++ rest))) refl within ∙ first in
    ap (λ n. (take n (field ++ rest), drop n (field ++ rest))) at
    ∙ ap (λ f. (f, drop (length field) (field ++ rest))) (take-append_seam field rest)
    ∙ ap (λ r. (field, r)) (drop-append_seam field rest)

pub field_at-field : (field rest : List ℕ) → AreAbove 32 field → IsEnd rest → field_at (field_text field ++ rest) ≡ Some (field, rest)
field_at-field field rest above ends = ap Some (cut-field field rest above ends)

-- ---- read, so it was written

-- the two parts of what was cut are the whole
pub cut-whole : (bytes : List ℕ) → (cut bytes).0 ++ (cut bytes).1 ≡ bytes
cut-whole bytes = take-append-drop _ bytes

-- a field that was read follows a space, and what is left follows it
pub field_at-whole : (rest : List ℕ) (parts : List ℕ × List ℕ) → field_at rest ≡ Some parts → rest ≡ field_text parts.0 ++ parts.1
field_at-whole [] parts h = cc
field_at-whole (b ∷ bytes) parts h = by (is_space b) refl h
  where
    by : (s : Bool) → is_space b ≡ s → cond s (Some (cut bytes)) None ≡ Some parts → b ∷ bytes ≡ field_text parts.0 ++ parts.1
    by true is e =
        let space : b ≡ 32 = grind (arith, nat_tests) in
        let same : cut bytes ≡ parts = ap (λ o. unwrap_or o (cut bytes)) e in
        ap (λ c. c ∷ bytes) space ∙ ap (λ s. 32 ∷ s) (sym (cut-whole bytes)) ∙ ap (λ p. 32 ∷ (p.0 ++ p.1)) same
    by false is e = cc
