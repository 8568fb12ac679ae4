-- The bits of a word, one after another.
use Rattle.std.proofs.Common.{◌≡◌, ℕ, zero, suc, ◌+◌, ◌^◌, ◌%◌, ◌/◌, ◌<◌, ◌≤◌, arith, Bool, true, false, ◌&&◌, not, if◌then◌else◌, List, [], ◌∷◌, refl, sym, ap, ◌∙◌, inl, inr}
use Rattle.std.specs.Prelude.{◌==◌, filter}
use Rattle.std.specs.List.{range_with_len}
use Rattle.std.proofs.lemmas.Bool.{cases_lt, cases_eq, cond-true, cond-false, eq-eqb, ne_eqb, true≢false}
use Rattle.std.proofs.lemmas.Nat.{div-add-mod'}
use Rattle.std.proofs.lemmas.Nat.Bits.{bit_at-zero, bit_at_above, bit_at_cat_low}
use Rattle.std.proofs.Math.Bool.{and-false, and-true}
use Rattle.areanode.specs.Words.{has_bit}
use Rattle.core_steps.specs.Reads.{players_in}

-- ---- the numbers whose bit is set

-- those below n, rising
abbrev pub bits_in : ℕ → ℕ → List ℕ
bits_in n word = filter (has_bit word) (range_with_len 0 n)

-- a filter by tests that agree on the range
filter_agree : (f h : ℕ → Bool) (len low : ℕ) → ((i : ℕ) → low ≤ i → i < low + len → f i ≡ h i) → filter f (range_with_len low len) ≡ filter h (range_with_len low len)
filter_agree f h zero low same = refl
filter_agree f h (suc len) low same =
    let rest = filter_agree f h len (low + 1) (λ i above below. same i (omega (arith, above)) (omega (arith, below))) in
    ap (λ (xs : List ℕ). if f low then low ∷ xs else xs) rest
    ∙ ap (λ (b : Bool). if b then low ∷ filter h (range_with_len (low + 1) len) else filter h (range_with_len (low + 1) len)) (same low (omega arith) (omega arith))

filter_none : (f : ℕ → Bool) (len low : ℕ) → ((i : ℕ) → f i ≡ false) → filter f (range_with_len low len) ≡ []
filter_none f zero low none = refl
filter_none f (suc len) low none =
    cond-false (f low) (low ∷ filter f (range_with_len (low + 1) len)) (filter f (range_with_len (low + 1) len)) (none low) ∙ filter_none f len (low + 1) none

-- the lowest number that passes comes first, before those that pass without it
filter_first : (f h : ℕ → Bool) (bit len low : ℕ) → low ≤ bit → bit < low + len → f bit ≡ true → ((i : ℕ) → i < bit → f i ≡ false) → ((i : ℕ) → i < low + len → h i ≡ (f i && not (i == bit)))
    → filter f (range_with_len low len) ≡ bit ∷ filter h (range_with_len low len)
filter_first f h bit zero low above below there first without = absurd (omega (arith, above, below))
filter_first f h bit (suc len) low above below there first without = elim (cases_eq low bit) [
  | inl same ↦
      let gone : h low ≡ false = without low (omega arith) ∙ ap (λ (b : Bool). f low && not b) (eq-eqb low bit same) ∙ and-false (f low) in
      let rest : filter f (range_with_len (low + 1) len) ≡ filter h (range_with_len (low + 1) len) =
      filter_agree f h len (low + 1) (λ i over under.
      sym (without i (omega (arith, under)) ∙ ap (λ (b : Bool). f i && not b) (ne_eqb i bit (λ e. omega (arith, e, same, over))) ∙ and-true (f i))) in
      cond-true (f low) (low ∷ filter f (range_with_len (low + 1) len)) (filter f (range_with_len (low + 1) len)) (ap f same ∙ there)
      ∙ ap (λ (n : ℕ). n ∷ filter f (range_with_len (low + 1) len)) same
      ∙ ap (λ (xs : List ℕ). bit ∷ xs) (rest ∙ sym (cond-false (h low) (low ∷ filter h (range_with_len (low + 1) len)) (filter h (range_with_len (low + 1) len)) gone))
  | inr other ↦
      let under : low < bit = omega (arith, above, other) in
      let gone : h low ≡ false = without low (omega arith) ∙ ap (λ (b : Bool). b && not (low == bit)) (first low under) in
      cond-false (f low) (low ∷ filter f (range_with_len (low + 1) len)) (filter f (range_with_len (low + 1) len)) (first low under)
      ∙ filter_first f h bit len (low + 1) (omega (arith, under)) (omega (arith, below)) there first (λ i within. without i (omega (arith, within)))
      ∙ ap (λ (xs : List ℕ). bit ∷ xs) (sym (cond-false (h low) (low ∷ filter h (range_with_len (low + 1) len)) (filter h (range_with_len (low + 1) len)) gone))
]

-- the lowest bit comes first, then those of the word without it
pub bits_first : (n word rest bit : ℕ) → bit < n → n ≤ 64 → has_bit word bit ≡ true → ((i : ℕ) → i < bit → has_bit word i ≡ false)
    → ((i : ℕ) → i < 64 → has_bit rest i ≡ (has_bit word i && not (i == bit))) → bits_in n word ≡ bit ∷ bits_in n rest
bits_first n word rest bit below few there first without =
    filter_first (has_bit word) (has_bit rest) bit n 0 (omega arith) (omega (arith, below)) there first (λ i within. without i (omega (arith, within, few)))

pub bits_none : (n : ℕ) → bits_in n 0 ≡ []
bits_none n = filter_none (has_bit 0) n 0 (λ i. ap (λ (b : ℕ). b == 1) (bit_at-zero i))

-- a bit of a small word is small
pub bit_below : (n word bit : ℕ) → word < 2 ^ n → has_bit word bit ≡ true → bit < n
bit_below n word bit small there = elim (cases_lt bit n) [
  | inl below ↦ below
  | inr above ↦ absurd (true≢false (sym there ∙ ap (λ (b : ℕ). b == 1) (bit_at_above word n bit small above)))
]

-- the lowest bit of a small word comes first
pub lowest_first : (n word rest bit : ℕ) → n ≤ 64 → word < 2 ^ n → has_bit word bit ≡ true → ((i : ℕ) → i < bit → has_bit word i ≡ false)
    → ((i : ℕ) → i < 64 → has_bit rest i ≡ (has_bit word i && not (i == bit))) → bits_in n word ≡ bit ∷ bits_in n rest
lowest_first n word rest bit few small there first without = bits_first n word rest bit (bit_below n word bit small there) few there first without

-- the players of a list word but one are the bits of the word without its bit
pub players_are : (word own rest : ℕ) → ((i : ℕ) → i < 64 → has_bit rest i ≡ (has_bit word i && not (i == own))) → players_in word own ≡ bits_in 64 rest
players_are word own rest without =
    filter_agree (λ slot. has_bit word slot && not (slot == own)) (has_bit rest) 64 0 (λ i above below. sym (without i (omega (arith, below))))

-- the bits below n of a word that is cut there
pub bits_low : (n word : ℕ) → bits_in n (word % 2 ^ n) ≡ bits_in n word
bits_low n word =
    filter_agree (has_bit (word % 2 ^ n)) (has_bit word) n 0
    (λ i above below.
    let within : i < n = omega (arith, below) in
    sym (ap (λ (w : ℕ). has_bit w i) (sym (div-add-mod' word (2 ^ n))) ∙ ap (λ (b : ℕ). b == 1) (bit_at_cat_low (word / 2 ^ n) n (word % 2 ^ n) i within)))
