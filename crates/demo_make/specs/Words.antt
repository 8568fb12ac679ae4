-- The words that are drawn: those of SplitMix64, one after another.
use Rattle.std.specs.Prelude.{ℕ, zero, suc, ◌-◌, ◌*◌}
use Rattle.rand_xoshiro.specs.SplitMix64.{mix_u64}

-- the word that a state gives
unfoldable pub word_of : ℕ → ℕ
word_of state = (mix_u64 state).0

-- the state after that word
unfoldable pub next_state : ℕ → ℕ
next_state state = (mix_u64 state).1

-- the state after so many words
unfoldable pub state_after : ℕ → ℕ → ℕ
state_after state zero = state
state_after state (suc words) = state_after (next_state state) words

-- a word of a seed, which is the first state; they are counted from 0
abbrev pub word_at : ℕ → ℕ → ℕ
word_at seed k = word_of (state_after seed k)

-- the state of words that are drawn so many frames late, where so many frames were opened and the last one has so many
-- words left
abbrev pub state_back : ℕ → ℕ → ℕ → ℕ → ℕ → ℕ
state_back seed players opened left back = state_after seed ((opened - back) * players - left)
