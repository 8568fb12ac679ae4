-- Fields that are numbers, and the decimal text of a number.
use Rattle.std.proofs.Common.{◌≡◌, ℕ, zero, suc, ◌+◌, ◌-◌, ◌*◌, ◌^◌, ◌≤◌, ◌<◌, ◌==◌, Bool, true, false, ◌&&◌, nat_le, List, [], ◌∷◌, length, get_or, Option, Some, None, option_map, ◌⊎◌, inl, inr, cond, refl, sym, ap, ◌∙◌, subst, arith, ℤ, pos, negsuc, decimal, unsigned_abs, rules, not, codes, bytes_eq}
use Rattle.std.specs.Fmt.{signed_decimal}
use Rattle.std.specs.Str.{all_ascii_digits}
use Rattle.std.proofs.lemmas.Str.Parse.{IsNumeralModel, numerals_by_fold}
use Rattle.std.proofs.lemmas.Fmt.{decimal_digit, first_decimal, decimal_nonempty, digits_decimal, digits_value-decimal, decimal-digits_value}
use Rattle.std.proofs.lemmas.Bool.Decides.{nat_tests}
use Rattle.std.proofs.lemmas.Slice.Eq.{bytes_eq-Decides}
use Rattle.std.proofs.lemmas.Bool.{and_parts, not-true}
use Rattle.edge_io.specs.Numbers.{is_digit, digits_up_to, natural_up_to, integer_up_to, negative_of, are_digits, is_natural, is_integer}
use Rattle.edge_io.specs.Laws.{IsReadWithin, IntegersHaveForm}

-- the number of the digits of n and then these
abbrev pub read_on : ℕ → List ℕ → ℕ
read_on n [] = n
read_on n (d ∷ ds) = read_on (10 * n + (d - 48)) ds

pub own : IsNumeralModel (λ ds. all_ascii_digits ds ≡ true) (read_on 0)
own = numerals_by_fold _ (search rules) read_on (search rules)

-- digits that spell n after those of m
record Spells (m : ℕ) (ds : List ℕ) (n : ℕ) : Type 0 where
  digits : all_ascii_digits ds ≡ true
  value : read_on m ds ≡ n

spells-cons : (m d n : ℕ) (ds : List ℕ) (a b : Bool) (read : Option ℕ) → is_digit d ≡ a → (read ≡ Some n → Spells (10 * m + (d - 48)) ds n)
    → cond (a && b) read None ≡ Some n → Spells m (d ∷ ds) n
spells-cons m d n ds true true read digit rest e =
    let spells = rest e in
    record { digits = ap (λ b. b && all_ascii_digits ds) digit ∙ spells.digits; value = spells.value }
spells-cons m d n ds true false read digit rest e = cc
spells-cons m d n ds false b read digit rest e = cc

-- what was read is spelled so
spells-read : (limit m n : ℕ) (ds : List ℕ) → digits_up_to limit m ds ≡ Some n → Spells m ds n
spells-read limit m n [] e = record { digits = refl; value = cc }
spells-read limit m n (d ∷ ds) e =
    spells-cons m d n ds (is_digit d) (nat_le (10 * m + (d - 48)) limit) (digits_up_to limit (10 * m + (d - 48)) ds) refl (spells-read limit (10 * m + (d - 48)) n ds) e

bound-cons : (limit m n : ℕ) (a b : Bool) (read : Option ℕ) → nat_le m limit ≡ b → (m ≤ limit → read ≡ Some n → n ≤ limit) → cond (a && b) read None ≡ Some n → n ≤ limit
bound-cons limit m n true true read small rest e = let fits : m ≤ limit = grind (arith, nat_tests) in rest fits e
bound-cons limit m n true false read small rest e = cc
bound-cons limit m n false b read small rest e = cc

-- and within the limit
bound-read : (limit m n : ℕ) (ds : List ℕ) → m ≤ limit → digits_up_to limit m ds ≡ Some n → n ≤ limit
bound-read limit m n [] h e = let same : m ≡ n = cc in omega arith
bound-read limit m n (d ∷ ds) h e =
    bound-cons limit (10 * m + (d - 48)) n (is_digit d) (nat_le (10 * m + (d - 48)) limit) (digits_up_to limit (10 * m + (d - 48)) ds) refl
    (bound-read limit (10 * m + (d - 48)) n ds) e

-- more digits give no smaller number
read_on-ge : (m : ℕ) (ds : List ℕ) → m ≤ read_on m ds
read_on-ge m [] = omega arith
read_on-ge m (d ∷ ds) = let more = read_on-ge (10 * m + (d - 48)) ds in omega arith

-- digits that spell a number within the limit are read as that number
read-spelled : (limit m n : ℕ) (ds : List ℕ) → Spells m ds n → n ≤ limit → digits_up_to limit m ds ≡ Some n
read-spelled limit m n [] s h = ap Some s.value
read-spelled limit m n (d ∷ ds) s h =
    let parts = and_parts (is_digit d) (all_ascii_digits ds) s.digits in
    let rest : Spells (10 * m + (d - 48)) ds n = record { digits = parts.1; value = s.value } in
    let more : 10 * m + (d - 48) ≤ read_on (10 * m + (d - 48)) ds = read_on-ge (10 * m + (d - 48)) ds in
    let value : read_on (10 * m + (d - 48)) ds ≡ n = s.value in
    let below : 10 * m + (d - 48) ≤ limit = omega arith in
    let fits : nat_le (10 * m + (d - 48)) limit ≡ true = grind (arith, nat_tests) in
    ap (λ b. cond (b && nat_le (10 * m + (d - 48)) limit) (digits_up_to limit (10 * m + (d - 48)) ds) None) parts.0
    ∙ ap (λ b. cond b (digits_up_to limit (10 * m + (d - 48)) ds) None) fits
    ∙ read-spelled limit (10 * m + (d - 48)) n ds rest h

-- ---- naturals

spelled-natural : (limit n : ℕ) (ds : List ℕ) → limit < 2 ^ 64 → 0 < length ds → (get_or ds 0 0 ≡ 48 → length ds ≡ 1)
    → digits_up_to limit 0 ds ≡ Some n → (ds ≡ decimal n) × (n ≤ limit)
spelled-natural limit n ds low some no_zero e =
    let spells = spells-read limit 0 n ds e in
    let bound : n ≤ limit = bound-read limit 0 n ds (omega arith) e in
    let value : read_on 0 ds ≡ n = spells.value in
    let text = decimal-digits_value own ds spells.digits some no_zero (omega arith) in
    (sym text ∙ ap decimal value, bound)

pub natural-spelled : (limit n : ℕ) (field : List ℕ) → limit < 2 ^ 64 → natural_up_to limit field ≡ Some n → (field ≡ decimal n) × (n ≤ limit)
natural-spelled limit n [] low e = cc
natural-spelled limit n (d ∷ []) low e = spelled-natural limit n (d ∷ []) low (omega arith) (λ h. refl) e
natural-spelled limit n (d ∷ f ∷ ds) low e = by_first (d == 48) refl e
  where
    by_first : (b : Bool) → (d == 48) ≡ b → cond b None (digits_up_to limit 0 (d ∷ f ∷ ds)) ≡ Some n → (d ∷ f ∷ ds ≡ decimal n) × (n ≤ limit)
    by_first true is e = cc
    by_first false is e = spelled-natural limit n (d ∷ f ∷ ds) low (omega arith) (λ (h : d ≡ 48). absurd (grind (arith, nat_tests))) e

-- a field that has no leading zero is read by its digits
natural-digits : (limit n : ℕ) (ds : List ℕ) → 0 < length ds → ((ds ≡ 48 ∷ []) ⊎ (48 < get_or ds 0 0)) → digits_up_to limit 0 ds ≡ Some n → natural_up_to limit ds ≡ Some n
natural-digits limit n [] some no_zero e = absurd (omega arith)
natural-digits limit n (d ∷ []) some no_zero e = e
natural-digits limit n (d ∷ f ∷ ds) some (inl is) e = cc
natural-digits limit n (d ∷ f ∷ ds) some (inr high) e =
    let other : (d == 48) ≡ false = grind (arith, nat_tests) in
    ap (λ b. cond b None (digits_up_to limit 0 (d ∷ f ∷ ds))) other ∙ e

pub first_of_decimal : (n : ℕ) → n < 2 ^ 64 → (decimal n ≡ 48 ∷ []) ⊎ (48 < get_or (decimal n) 0 0)
first_of_decimal zero small = inl (decimal_digit 0 (omega arith))
first_of_decimal (suc n) small = inr (first_decimal (suc n) (omega arith) small)

pub natural-decimal : (limit n : ℕ) → n < 2 ^ 64 → n ≤ limit → natural_up_to limit (decimal n) ≡ Some n
natural-decimal limit n small h =
    let spells : Spells 0 (decimal n) n = record { digits = digits_decimal own n small; value = digits_value-decimal own n small } in
    natural-digits limit n (decimal n) (decimal_nonempty n small) (first_of_decimal n small) (read-spelled limit 0 n (decimal n) spells h)

-- ---- numbers below 0

negated-spelled : (limit : ℕ) (z : ℤ) (ds : List ℕ) (read : Option ℕ) → limit < 2 ^ 64 → natural_up_to limit ds ≡ read → negative_of read ≡ Some z
    → (45 ∷ ds ≡ signed_decimal z) × (unsigned_abs z ≤ limit)
negated-spelled limit z ds None low is e = cc
negated-spelled limit z ds (Some zero) low is e = cc
negated-spelled limit z ds (Some (suc n)) low is e =
    let spelled = natural-spelled limit (suc n) ds low is in
    let same : negsuc n ≡ z = cc in
    let P : ℤ → Type 0 = λ y. (45 ∷ ds ≡ signed_decimal y) × (unsigned_abs y ≤ limit) in
    subst P same (ap (λ ns. 45 ∷ ns) spelled.0, spelled.1)

pos-spelled : (limit : ℕ) (z : ℤ) (ds : List ℕ) (read : Option ℕ) → limit < 2 ^ 64 → natural_up_to limit ds ≡ read → option_map pos read ≡ Some z
    → (ds ≡ signed_decimal z) × (unsigned_abs z ≤ limit)
pos-spelled limit z ds None low is e = cc
pos-spelled limit z ds (Some n) low is e =
    let spelled = natural-spelled limit n ds low is in
    let same : pos n ≡ z = cc in
    let P : ℤ → Type 0 = λ y. (ds ≡ signed_decimal y) × (unsigned_abs y ≤ limit) in
    subst P same (spelled.0, spelled.1)

pub integer-spelled : (limit : ℕ) (z : ℤ) (field : List ℕ) → limit < 2 ^ 64 → integer_up_to limit field ≡ Some z → (field ≡ signed_decimal z) × (unsigned_abs z ≤ limit)
integer-spelled limit z [] low e = cc
integer-spelled limit z (b ∷ bs) low e = by_sign (b == 45) refl e
  where
    by_sign : (s : Bool) → (b == 45) ≡ s → cond s (negative_of (natural_up_to limit bs)) (option_map pos (natural_up_to limit (b ∷ bs))) ≡ Some z
        → (b ∷ bs ≡ signed_decimal z) × (unsigned_abs z ≤ limit)
    by_sign true is e =
        let minus : b ≡ 45 = grind (arith, nat_tests) in
        let spelled = negated-spelled limit z bs (natural_up_to limit bs) low refl e in
        (ap (λ d. d ∷ bs) minus ∙ spelled.0, spelled.1)
    by_sign false is e = pos-spelled limit z (b ∷ bs) (natural_up_to limit (b ∷ bs)) low refl e

-- a field that doesn't begin with a minus is read as a natural
integer-natural : (limit n : ℕ) (ds : List ℕ) → 48 ≤ get_or ds 0 0 → natural_up_to limit ds ≡ Some n → integer_up_to limit ds ≡ Some (pos n)
integer-natural limit n [] high e = cc
integer-natural limit n (d ∷ ds) high e =
    let other : (d == 45) ≡ false = grind (arith, nat_tests) in
    ap (λ b. cond b (negative_of (natural_up_to limit ds)) (option_map pos (natural_up_to limit (d ∷ ds)))) other ∙ ap (option_map pos) e

begins_with_digit : (n : ℕ) → ((decimal n ≡ 48 ∷ []) ⊎ (48 < get_or (decimal n) 0 0)) → 48 ≤ get_or (decimal n) 0 0
begins_with_digit n (inl is) = let first : get_or (decimal n) 0 0 ≡ 48 = ap (λ ds. get_or ds 0 0) is in omega arith
begins_with_digit n (inr high) = omega arith

pub integer-decimal : (limit : ℕ) (z : ℤ) → unsigned_abs z < 2 ^ 64 → unsigned_abs z ≤ limit → integer_up_to limit (signed_decimal z) ≡ Some z
integer-decimal limit (pos n) small h =
    integer-natural limit n (decimal n) (begins_with_digit n (first_of_decimal n small)) (natural-decimal limit n small h)
integer-decimal limit (negsuc n) small h = ap negative_of (natural-decimal limit (suc n) small h)

-- ---- numbers of any size

-- digits are digits by either word
same_digits : (ds : List ℕ) → are_digits ds ≡ all_ascii_digits ds
same_digits [] = refl
same_digits (d ∷ ds) = ap (λ b. is_digit d && b) (same_digits ds)

digits-form : (limit m n : ℕ) (ds : List ℕ) → digits_up_to limit m ds ≡ Some n → are_digits ds ≡ true
digits-form limit m n ds e = same_digits ds ∙ (spells-read limit m n ds e).digits

-- what is read within a limit has the form of a number
pub natural-form : (limit n : ℕ) (field : List ℕ) → natural_up_to limit field ≡ Some n → is_natural field ≡ true
natural-form limit n [] e = cc
natural-form limit n (d ∷ []) e = digits-form limit 0 n (d ∷ []) e
natural-form limit n (d ∷ f ∷ ds) e = by_first (d == 48) refl e
  where
    by_first : (b : Bool) → (d == 48) ≡ b → cond b None (digits_up_to limit 0 (d ∷ f ∷ ds)) ≡ Some n → is_natural (d ∷ f ∷ ds) ≡ true
    by_first true is e = cc
    by_first false is e = ap (λ b. not b && are_digits (d ∷ f ∷ ds)) is ∙ digits-form limit 0 n (d ∷ f ∷ ds) e

-- a number above 0 isn't written 0
not_zero : (limit n : ℕ) (field : List ℕ) (b : Bool) → bytes_eq field (codes "0") ≡ b → natural_up_to limit field ≡ Some (suc n) → b ≡ false
not_zero limit n field false is e = refl
not_zero limit n field true is e =
    let zero_text : field ≡ 48 ∷ [] = (bytes_eq-Decides field (codes "0")).0 is in
    let read : digits_up_to limit 0 (48 ∷ []) ≡ Some (suc n) = ap (natural_up_to limit) (sym zero_text) ∙ e in
    let spells = spells-read limit 0 (suc n) (48 ∷ []) read in
    let value : 0 ≡ suc n = spells.value in
    absurd (omega (arith, value))

negated-form : (limit : ℕ) (z : ℤ) (ds : List ℕ) (read : Option ℕ) → natural_up_to limit ds ≡ read → negative_of read ≡ Some z
    → (is_natural ds && not (bytes_eq ds (codes "0"))) ≡ true
negated-form limit z ds None is e = cc
negated-form limit z ds (Some zero) is e = cc
negated-form limit z ds (Some (suc n)) is e =
    ap (λ b. is_natural ds && not b) (not_zero limit n ds (bytes_eq ds (codes "0")) refl is)
    ∙ ap (λ b. b && true) (natural-form limit (suc n) ds is)

pos-form : (limit : ℕ) (z : ℤ) (ds : List ℕ) (read : Option ℕ) → natural_up_to limit ds ≡ read → option_map pos read ≡ Some z → is_natural ds ≡ true
pos-form limit z ds None is e = cc
pos-form limit z ds (Some n) is e = natural-form limit n ds is

pub integer-form : (limit : ℕ) (z : ℤ) (field : List ℕ) → integer_up_to limit field ≡ Some z → is_integer field ≡ true
integer-form limit z [] e = cc
integer-form limit z (b ∷ bs) e = by_sign (b == 45) refl e
  where
    by_sign : (s : Bool) → (b == 45) ≡ s → cond s (negative_of (natural_up_to limit bs)) (option_map pos (natural_up_to limit (b ∷ bs))) ≡ Some z → is_integer (b ∷ bs) ≡ true
    by_sign true is e =
        ap (λ s. cond s (is_natural bs && not (bytes_eq bs (codes "0"))) (is_natural (b ∷ bs))) is
        ∙ negated-form limit z bs (natural_up_to limit bs) refl e
    by_sign false is e =
        ap (λ s. cond s (is_natural bs && not (bytes_eq bs (codes "0"))) (is_natural (b ∷ bs))) is
        ∙ pos-form limit z (b ∷ bs) (natural_up_to limit (b ∷ bs)) refl e

-- a natural is an integer too
pub natural-integer : (limit n : ℕ) (field : List ℕ) → natural_up_to limit field ≡ Some n → limit < 2 ^ 64 → is_integer field ≡ true
natural-integer limit n field e low =
    let spelled = natural-spelled limit n field low e in
    let back : integer_up_to limit (decimal n) ≡ Some (pos n) = integer-decimal limit (pos n) (omega (arith, spelled.1)) spelled.1 in
    integer-form limit (pos n) field (ap (integer_up_to limit) spelled.0 ∙ back)

-- ---- a field of the form of a number is read within some limit

natural-within : (ds : List ℕ) → is_natural ds ≡ true → natural_up_to (read_on 0 ds) ds ≡ Some (read_on 0 ds)
natural-within [] h = cc
natural-within (d ∷ []) h = read-spelled _ 0 _ (d ∷ []) (record { digits = sym (same_digits (d ∷ [])) ∙ h; value = refl }) (omega arith)
natural-within (d ∷ f ∷ ds) h = by_first (d == 48) refl h
  where
    by_first : (b : Bool) → (d == 48) ≡ b → (not b && are_digits (d ∷ f ∷ ds)) ≡ true
        → natural_up_to (read_on 0 (d ∷ f ∷ ds)) (d ∷ f ∷ ds) ≡ Some (read_on 0 (d ∷ f ∷ ds))
    by_first true is e = cc
    by_first false is e =
        ap (λ b. cond b None (digits_up_to (read_on 0 (d ∷ f ∷ ds)) 0 (d ∷ f ∷ ds))) is
        ∙ read-spelled _ 0 _ (d ∷ f ∷ ds) (record { digits = sym (same_digits (d ∷ f ∷ ds)) ∙ e; value = refl }) (omega arith)

other_digit : (d : ℕ) → is_digit d ≡ true → (d == 48) ≡ false → 48 < d
other_digit d digit other = grind (arith, nat_tests)

-- a number that isn't written 0 is above 0
above_zero : (ds : List ℕ) → is_natural ds ≡ true → bytes_eq ds (codes "0") ≡ false → 0 < read_on 0 ds
above_zero [] h z = cc
above_zero (d ∷ []) h z = by (d == 48) refl z
  where
    by : (b : Bool) → (d == 48) ≡ b → (b && true) ≡ false → 0 < read_on 0 (d ∷ [])
    by true is e = cc
    by false is e = let more = other_digit d (and_parts (is_digit d) true h).0 is in omega arith
above_zero (d ∷ f ∷ ds) h z = by (d == 48) refl h
  where
    by : (b : Bool) → (d == 48) ≡ b → (not b && are_digits (d ∷ f ∷ ds)) ≡ true → 0 < read_on 0 (d ∷ f ∷ ds)
    by true is e = cc
    by false is e =
        let digit = (and_parts (is_digit d) (are_digits (f ∷ ds)) e).0 in
        let more = other_digit d digit is in
        let grown = read_on-ge (10 * 0 + (d - 48)) (f ∷ ds) in
        omega arith

natural-read : (ds : List ℕ) (b : ℕ) → (b == 45) ≡ false → is_natural (b ∷ ds) ≡ true → IsReadWithin (b ∷ ds)
natural-read ds b other h = record {
  limit = read_on 0 (b ∷ ds);
  number = pos (read_on 0 (b ∷ ds));
  read = ap (λ s. cond s (negative_of (natural_up_to (read_on 0 (b ∷ ds)) ds)) (option_map pos (natural_up_to (read_on 0 (b ∷ ds)) (b ∷ ds)))) other
      ∙ ap (option_map pos) (natural-within (b ∷ ds) h);
}

minus-read : (ds : List ℕ) (b n : ℕ) → (b == 45) ≡ true → natural_up_to n ds ≡ Some n → 0 < n → IsReadWithin (b ∷ ds)
minus-read ds b zero minus e some = absurd (omega (arith, some))
minus-read ds b (suc m) minus e some = record {
  limit = suc m;
  number = negsuc m;
  read = ap (λ s. cond s (negative_of (natural_up_to (suc m) ds)) (option_map pos (natural_up_to (suc m) (b ∷ ds)))) minus ∙ ap negative_of e;
}

pub integer-within : (field : List ℕ) → is_integer field ≡ true → IsReadWithin field
integer-within [] h = cc
integer-within (b ∷ bs) h = by (b == 45) refl h
  where
    by : (s : Bool) → (b == 45) ≡ s → cond s (is_natural bs && not (bytes_eq bs (codes "0"))) (is_natural (b ∷ bs)) ≡ true → IsReadWithin (b ∷ bs)
    by true is e =
        let parts = and_parts (is_natural bs) (not (bytes_eq bs (codes "0"))) e in
        minus-read bs b (read_on 0 bs) is (natural-within bs parts.0) (above_zero bs parts.0 (not-true (bytes_eq bs (codes "0")) parts.1))
    by false is e = natural-read bs b is e

pub integers_have_form : IntegersHaveForm
integers_have_form field = (integer-within field, λ within. integer-form within.limit within.number field within.read)
