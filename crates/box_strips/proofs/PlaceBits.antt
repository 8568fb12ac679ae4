-- Bits by place, in a list of words.
use Rattle.std.proofs.Common.{◌≡◌, ◌≢◌, ℕ, zero, suc, ◌+◌, ◌-◌, ◌*◌, ◌/◌, ◌%◌, ◌^◌, ◌<◌, ◌≤◌, ◌==◌, min, max, true, false, ◌&&◌, ◌||◌, List, length, get_or, set, bit_and, bit_or, refl, sym, ap, ◌∙◌, inl, inr, arith, w64}
use Rattle.std.specs.Int.{bit_at, trailing_zeros}
use Rattle.std.proofs.lemmas.Bool.{cases_eq, cases_lt, true≢false, false≢true, and_from, or_left, or_right}
use Rattle.std.proofs.lemmas.List.{get_or-set_same, get_or-set_other, get_or_past}
use Rattle.std.proofs.lemmas.Nat.{shr-shr, shr_le}
use Rattle.std.proofs.lemmas.Nat.Bits.{bit_at-zero, bit_at-lt, bit_at_above, bit_at_and, bit_at_or, bit_at_set_same, bit_at_set_other, bit_at-trailing_zeros}
use Rattle.box_strips.specs.Places.{has_bit, has_place, KeepsPlaces, NoBitFrom, IsNextBit, NoPlaceIn}

-- ---- a bit is set

pub bit_set : (word bit : ℕ) → bit < 64 → has_bit (bit_or word (1 * 2 ^ bit % 2 ^ 64)) bit ≡ true
bit_set word bit below = ap (λ (b : ℕ). b == 1) (bit_at_set_same w64 word bit below)

pub bit_kept : (word bit i : ℕ) → bit < 64 → has_bit word i ≡ true → has_bit (bit_or word (1 * 2 ^ bit % 2 ^ 64)) i ≡ true
bit_kept word bit i below there = elim (cases_eq i bit) [
  | inl same ↦ ap (has_bit (bit_or word (1 * 2 ^ bit % 2 ^ 64))) same ∙ bit_set word bit below
  | inr other ↦ ap (λ (b : ℕ). b == 1) (bit_at_set_other w64 word bit below i other) ∙ there
]

-- ---- a word is put

-- a word is put that has a bit for sure where the bit is known of another word
pub place_put : (bits : List ℕ) (word new place : ℕ) → word < length bits → (place / 64 ≡ word → has_bit new (place % 64) ≡ true) → (place / 64 ≢ word → has_place bits place ≡ true)
    → has_place (set bits word new) place ≡ true
place_put bits word new place within here there = elim (cases_eq (place / 64) word) [
  | inl same ↦
      ap (λ (w : ℕ). has_bit (get_or (set bits word new) w 0) (place % 64)) same
      ∙ ap (λ (w : ℕ). has_bit w (place % 64)) (get_or-set_same bits word new 0 within) ∙ here same
  | inr other ↦ ap (λ (w : ℕ). has_bit w (place % 64)) (get_or-set_other bits word (place / 64) new 0 other) ∙ there other
]

pub keeps_put : (bits : List ℕ) (word new : ℕ) → word < length bits → ((i : ℕ) → has_bit (get_or bits word 0) i ≡ true → has_bit new i ≡ true) → KeepsPlaces bits (set bits word new)
keeps_put bits word new within keeps place there =
    place_put bits word new place within
    (λ same. keeps (place % 64) (ap (λ (w : ℕ). has_bit (get_or bits w 0) (place % 64)) (sym same) ∙ there))
    (λ other. there)

-- a word is put, and what is in another one was there
pub other_word : (bits : List ℕ) (word new place : ℕ) → place / 64 ≢ word → has_place (set bits word new) place ≡ true → has_place bits place ≡ true
other_word bits word new place other there =
    sym (ap (λ (w : ℕ). has_bit w (place % 64)) (get_or-set_other bits word (place / 64) new 0 other)) ∙ there

-- a place that has its bit is one of the words
pub place_within : (bits : List ℕ) (place : ℕ) → has_place bits place ≡ true → place / 64 < length bits
place_within bits place there = elim (cases_lt (place / 64) (length bits)) [
  | inl within ↦ within
  | inr past ↦ absurd (false≢true (sym (ap (λ (w : ℕ). has_bit w (place % 64)) (get_or_past bits (place / 64) 0 past) ∙ ap (λ (b : ℕ). b == 1) (bit_at-zero (place % 64))) ∙ there))
]

-- ---- bits of several words

and_bits : (a b i : ℕ) → has_bit (bit_and a b) i ≡ (has_bit a i && has_bit b i)
and_bits a b i = ap (λ (n : ℕ). n == 1) (bit_at_and a b i) ∙ by_bits (bit_at a i) (bit_at b i) (bit_at-lt a i) (bit_at-lt b i)
  where
    by_bits : (x y : ℕ) → x < 2 → y < 2 → (min x y == 1) ≡ ((x == 1) && (y == 1))
    by_bits zero zero less small = refl
    by_bits zero (suc zero) less small = refl
    by_bits (suc zero) zero less small = refl
    by_bits (suc zero) (suc zero) less small = refl
    by_bits (suc (suc x)) y less small = absurd (omega (arith, less))
    by_bits zero (suc (suc y)) less small = absurd (omega (arith, small))
    by_bits (suc zero) (suc (suc y)) less small = absurd (omega (arith, small))

or_bits : (a b i : ℕ) → has_bit (bit_or a b) i ≡ (has_bit a i || has_bit b i)
or_bits a b i = ap (λ (n : ℕ). n == 1) (bit_at_or a b i) ∙ by_bits (bit_at a i) (bit_at b i) (bit_at-lt a i) (bit_at-lt b i)
  where
    by_bits : (x y : ℕ) → x < 2 → y < 2 → (max x y == 1) ≡ ((x == 1) || (y == 1))
    by_bits zero zero less small = refl
    by_bits zero (suc zero) less small = refl
    by_bits (suc zero) zero less small = refl
    by_bits (suc zero) (suc zero) less small = refl
    by_bits (suc (suc x)) y less small = absurd (omega (arith, less))
    by_bits zero (suc (suc y)) less small = absurd (omega (arith, small))
    by_bits (suc zero) (suc (suc y)) less small = absurd (omega (arith, small))

and_has : (a b i : ℕ) → has_bit a i ≡ true → has_bit b i ≡ true → has_bit (bit_and a b) i ≡ true
and_has a b i here there = and_bits a b i ∙ and_from (has_bit a i) (has_bit b i) here there

pub or_has : (a b i : ℕ) → has_bit a i ≡ true → has_bit (bit_or a b) i ≡ true
or_has a b i here = or_bits a b i ∙ or_left (has_bit a i) (has_bit b i) here

pub or_has_too : (a b i : ℕ) → has_bit b i ≡ true → has_bit (bit_or a b) i ≡ true
or_has_too a b i there = or_bits a b i ∙ or_right (has_bit a i) (has_bit b i) there

-- ---- bits of several lists

-- the word of this place has its bit
pub at_word : (bits : List ℕ) (n place : ℕ) → place / 64 ≡ n → has_place bits place ≡ true → has_bit (get_or bits n 0) (place % 64) ≡ true
at_word bits n place same there = ap (λ (w : ℕ). has_bit (get_or bits w 0) (place % 64)) (sym same) ∙ there

-- the words so far have what four have, and all have what there was
pub record AreCommon (old a b c d bits : List ℕ) (n : ℕ) : Type 0 where
  pub kept : KeepsPlaces old bits
  pub added : (place : ℕ) → place / 64 < n → has_place a place ≡ true → has_place b place ≡ true → has_place c place ≡ true → has_place d place ≡ true → has_place bits place ≡ true

pub common_more : (old a b c d bits : List ℕ) (n : ℕ) → n < length bits → AreCommon old a b c d bits n
    → AreCommon old a b c d (set bits n (bit_or (get_or bits n 0) (bit_and (bit_and (bit_and (get_or a n 0) (get_or b n 0)) (get_or c n 0)) (get_or d n 0)))) (n + 1)
common_more old a b c d bits n within are =
    let both = bit_and (get_or a n 0) (get_or b n 0) in
    let three = bit_and both (get_or c n 0) in
    let all = bit_and three (get_or d n 0) in
    let new = bit_or (get_or bits n 0) all in
    let keeps = keeps_put bits n new within (λ i there. or_has (get_or bits n 0) all i there) in
    record {
      kept = λ place there. keeps place (are.kept place there);
      added = λ place below in_a in_b in_c in_d.
          place_put bits n new place within
          (λ same.
          let i = place % 64 in
          or_has_too (get_or bits n 0) all i
          (and_has three (get_or d n 0) i
          (and_has both (get_or c n 0) i
          (and_has (get_or a n 0) (get_or b n 0) i (at_word a n place same in_a) (at_word b n place same in_b))
          (at_word c n place same in_c))
          (at_word d n place same in_d)))
          (λ apart. are.added place (omega (arith, below, apart)) in_a in_b in_c in_d);
    }

-- ---- the next bit

shifted : (word from i : ℕ) → has_bit (word / 2 ^ from) i ≡ has_bit word (from + i)
shifted word from i = ap (λ (n : ℕ). n % 2 == 1) (shr-shr word from i)

pub no_bit_left : (word from : ℕ) → word / 2 ^ from ≡ 0 → NoBitFrom word from
no_bit_left word from none i least small =
    let at : from + (i - from) ≡ i = omega (arith, least) in
    sym (shifted word from (i - from) ∙ ap (has_bit word) at) ∙ ap (λ (n : ℕ). has_bit n (i - from)) none ∙ ap (λ (b : ℕ). b == 1) (bit_at-zero (i - from))

-- the lowest bit of a word that is shifted
pub record IsFirstBit (word bit : ℕ) : Type 0 where
  pub set : has_bit word bit ≡ true
  pub none : (i : ℕ) → i < bit → has_bit word i ≡ false

pub first_bit : (word from : ℕ) → word < 2 ^ 64 → (word / 2 ^ from ≡ 0 → ⊥) → IsFirstBit (word / 2 ^ from) (trailing_zeros w64 (word / 2 ^ from))
first_bit word from small some =
    let rest = word / 2 ^ from in
    let bits = bit_at-trailing_zeros w64 rest (omega (arith, some)) (omega (arith, small, shr_le word from)) in
    record {
      set = ap (λ (b : ℕ). b == 1) bits.1;
      none = λ i less. ap (λ (b : ℕ). b == 1) (bits.2 i less);
    }

pub next_bit_is : (word from bit : ℕ) → word < 2 ^ 64 → has_bit (word / 2 ^ from) bit ≡ true → ((i : ℕ) → i < bit → has_bit (word / 2 ^ from) i ≡ false) → IsNextBit word from (from + bit)
next_bit_is word from bit small there none = record {
  least = omega arith;
  within = elim (cases_lt (from + bit) 64) [
    | inl below ↦ below
    | inr above ↦ absurd (true≢false (sym (sym (shifted word from bit) ∙ there) ∙ ap (λ (b : ℕ). b == 1) (bit_at_above word 64 (from + bit) small above)))
  ];
  set = sym (shifted word from bit) ∙ there;
  none = λ i least less.
      let at : from + (i - from) ≡ i = omega (arith, least) in
      sym (shifted word from (i - from) ∙ ap (has_bit word) at) ∙ none (i - from) (omega (arith, least, less));
}

-- ---- the next place

-- no place from the first one on and before this one has its bit
pub record NoneYet (bits : List ℕ) (from at : ℕ) : Type 0 where
  pub least : from ≤ at
  pub none : NoPlaceIn bits from at
