-- Words and their sets.
use Rattle.std.proofs.Common.{◌≡◌, ℕ, zero, suc, ◌+◌, ◌-◌, ◌*◌, ◌%◌, ◌^◌, ◌<◌, ◌==◌, Bool, true, false, ◌||◌, if◌then◌else◌, ◌⊎◌, inl, inr, bit_or, max, refl, ap, sym, ◌∙◌, arith}
use Rattle.std.specs.Int.{bit_at}
use Rattle.std.proofs.Math.Nat.{pow-suc}
use Rattle.std.proofs.lemmas.Nat.{pow_pos, pow_below, or_lt}
use Rattle.std.proofs.lemmas.Nat.Bits.{bit_at_or, bit_at-pow_same, bit_at-pow_other, bit_at_cat_low, bit_at_cat_high, bit_at_lowest, same_from_bits_below}
use Rattle.std.proofs.lemmas.Bool.{cases_eq, eq-eqb, ne_eqb, or_cases, or_right}
use Rattle.areanode.specs.Words.{any_below, word_of}
use Rattle.areanode.specs.Laws.{SomeBelow, WordHasItsBits}

pub any_below_at : (n : ℕ) (test : ℕ → Bool) (i : ℕ) → i < n → test i ≡ true → any_below n test ≡ true
unfolding any_below
any_below_at zero test i below passes = let none : ⊥ = omega arith in absurd none
any_below_at (suc n) test i below passes =
    elim (cases_eq i n) [
      | inl same ↦ rw (← same, passes) refl
      | inr other ↦ or_right _ _ (any_below_at n test i (omega (arith, other)) passes)
    ]

some_below_cases : (n : ℕ) (test : ℕ → Bool) → ((test n ≡ true) ⊎ SomeBelow n test) → SomeBelow (suc n) test
some_below_cases n test (inl last) = record { number = n; below = omega arith; passes = last }
some_below_cases n test (inr some) = record { number = some.number; below = omega (arith, some.below); passes = some.passes }

pub some_below : (n : ℕ) (test : ℕ → Bool) → any_below n test ≡ true → SomeBelow n test
unfolding any_below
some_below zero test h = cc
some_below (suc n) test h =
    some_below_cases n test (elim (or_cases _ _ h) [ inl last ↦ inl last | inr some ↦ inr (some_below n test some) ])

-- the bit of a test
abbrev pub bit : Bool → ℕ
bit b = if b then 1 else 0

top_bit : (n : ℕ) (b : Bool) → (if b then 2 ^ n else 0) ≡ bit b * 2 ^ n
top_bit n true = omega arith
top_bit n false = omega arith

below_next : (n w : ℕ) (b : Bool) → w < 2 ^ n → (if b then 2 ^ n else 0) + w < 2 ^ suc n
below_next n w true h = omega (arith, pow-suc 2 n)
below_next n w false h = omega (arith, pow-suc 2 n)

pub word_of-below : (n : ℕ) (test : ℕ → Bool) → word_of n test < 2 ^ n
unfolding word_of
word_of-below zero test = omega (arith, pow_pos 0)
word_of-below (suc n) test = below_next n _ (test n) (word_of-below n test)

bit-mod : (b : Bool) → bit b % 2 ≡ bit b
bit-mod true = refl
bit-mod false = refl

bit_at-top : (n w : ℕ) (b : Bool) → w < 2 ^ n → bit_at ((if b then 2 ^ n else 0) + w) n ≡ bit b
bit_at-top n w b h =
    let none : n - n ≡ 0 = omega arith in
    rw (top_bit n b) (bit_at_cat_high (bit b) n w n h (omega arith) ∙ ap (bit_at (bit b)) none ∙ bit_at_lowest (bit b) ∙ bit-mod b)

bit_at-lower : (n w : ℕ) (b : Bool) (i : ℕ) → i < n → bit_at ((if b then 2 ^ n else 0) + w) i ≡ bit_at w i
bit_at-lower n w b i h = rw (top_bit n b) (bit_at_cat_low (bit b) n w i h)

pub bit_at-word_of : (n : ℕ) (test : ℕ → Bool) (i : ℕ) → i < n → bit_at (word_of n test) i ≡ bit (test i)
unfolding word_of
bit_at-word_of zero test i below = omega arith
bit_at-word_of (suc n) test i below =
    elim (cases_eq i n) [
      | inl same ↦ rw same (bit_at-top n _ (test n) (word_of-below n test))
      | inr other ↦ bit_at-lower n _ (test n) i (omega (arith, other)) ∙ bit_at-word_of n test i (omega (arith, other))
    ]

has_bit-bit : (n : ℕ) (b : Bool) → n ≡ bit b → (n == 1) ≡ b
has_bit-bit n true e = rw e refl
has_bit-bit n false e = rw e refl

pub word_has_its_bits : WordHasItsBits
word_has_its_bits n test i below = has_bit-bit _ (test i) (bit_at-word_of n test i below)

-- a word of n bits that has the bits of the tests
pub same_word : (n w : ℕ) (test : ℕ → Bool) → w < 2 ^ n → ((i : ℕ) → i < n → bit_at w i ≡ bit (test i))
    → w ≡ word_of n test
same_word n w test below bits =
    same_from_bits_below n w (word_of n test) below (word_of-below n test) (λ i h. bits i h ∙ sym (bit_at-word_of n test i h))

-- tests that agree have one word
pub word_of-same : (n : ℕ) (p q : ℕ → Bool) → ((i : ℕ) → i < n → p i ≡ q i) → word_of n p ≡ word_of n q
word_of-same n p q same = same_word n _ q (word_of-below n p) (λ i h. bit_at-word_of n p i h ∙ ap bit (same i h))

bit-or : (a b : Bool) → max (bit a) (bit b) ≡ bit (a || b)
bit-or true true = refl
bit-or true false = refl
bit-or false true = refl
bit-or false false = refl

pub word_of-or : (n : ℕ) (p q : ℕ → Bool) → bit_or (word_of n p) (word_of n q) ≡ word_of n (λ i. p i || q i)
word_of-or n p q =
    same_word n _ _ (or_lt n _ _ (word_of-below n p) (word_of-below n q)) (λ i h. bit_at_or (word_of n p) (word_of n q) i ∙ rw (bit_at-word_of n p i h, bit_at-word_of n q i h) (bit-or (p i) (q i)))

pub word_of-none : (n : ℕ) → word_of n (λ _. false) ≡ 0
unfolding word_of
word_of-none zero = refl
word_of-none (suc n) = omega (arith, word_of-none n)

bit_of_one : (k i : ℕ) → bit_at (2 ^ k) i ≡ bit (k == i)
bit_of_one k i =
    elim (cases_eq k i) [
      | inl same ↦ rw (← same, eq-eqb k k refl) (bit_at-pow_same k)
      | inr other ↦ rw (ne_eqb k i other) (bit_at-pow_other k i (λ e. other (sym e)))
    ]

-- the word of a set of one number
pub word_of-one : (n k : ℕ) → k < n → 2 ^ k ≡ word_of n (λ i. k == i)
word_of-one n k below = same_word n _ _ (pow_below k n below) (λ i _. bit_of_one k i)

-- ---- a word, bit by bit

-- a number below 2 is a bit
pub bit_by_test : (n : ℕ) → n < 2 → n ≡ bit (n == 1)
bit_by_test zero below = refl
bit_by_test (suc zero) below = refl
bit_by_test (suc (suc n)) below = omega arith

pub word_none : (test : ℕ → Bool) → 0 ≡ word_of 0 test
unfolding word_of
word_none test = refl

pub word_next : (n : ℕ) (test : ℕ → Bool) → word_of (n + 1) test ≡ (if test n then 2 ^ n else 0) + word_of n test
unfolding word_of
word_next n test = let next : n + 1 ≡ suc n = omega arith in ap (λ (k : ℕ). word_of k test) next
