-- Sets of small numbers: as tests, and as words of bits.
use Rattle.std.specs.Prelude.{ℕ, zero, suc, ◌+◌, ◌^◌, ◌==◌, Bool, false, ◌||◌, if◌then◌else◌}
use Rattle.std.specs.Int.{bit_at}

-- some number below n passes
unfoldable pub any_below : ℕ → (ℕ → Bool) → Bool
any_below zero test = false
any_below (suc n) test = test n || any_below n test

-- the word of n bits in which bit i is set where i passes
unfoldable pub word_of : ℕ → (ℕ → Bool) → ℕ
word_of zero test = 0
word_of (suc n) test = (if test n then 2 ^ n else 0) + word_of n test

-- bit i of the word is set
abbrev pub has_bit : ℕ → ℕ → Bool
has_bit word i = bit_at word i == 1
