-- The words of a seed by their numbers.
use Rattle.std.proofs.Common.{◌≡◌, ℕ, zero, suc, ◌+◌, [], ◌∷◌, map, refl, ap, ◌∙◌}
use Rattle.std.specs.List.{range_with_len}
use Rattle.std.proofs.lemmas.Nat.{from_le_bytes-to_le_bytes_8}
use Rattle.rand_core.specs.Steps.{first_words}
use Rattle.rand_xoshiro.specs.SplitMix64.{mix_u64}
use Rattle.demo_make.specs.Laws.{WordsAreKnown}
use Rattle.demo_make.specs.Words.{word_of, next_state, state_after, word_at}
use Rattle.demo_make.proofs.Drawing.{next_state-after}

stepped : (state : ℕ) → (mix_u64 state).1 ≡ next_state state
unfolding next_state
stepped state = refl

first_words-from : (seed first count : ℕ) → first_words mix_u64 count (state_after seed first) ≡ map (word_at seed) (range_with_len first count)
unfolding first_words word_of
first_words-from seed first zero = refl
first_words-from seed first (suc count) =
    ap (λ more. word_at seed first ∷ more)
    (ap (first_words mix_u64 count) (stepped (state_after seed first) ∙ next_state-after seed first) ∙ first_words-from seed (first + 1) count)

published : map (word_at 1477776061723855037) (range_with_len 0 2) ≡ 1985237415132408290 ∷ 2979275885539914483 ∷ []
unfolding word_of next_state state_after
published = refl

pub words_are_known : WordsAreKnown
unfolding state_after
words_are_known = record {
  words = λ seed count. first_words-from seed 0 count;
  seeded = λ seed small. from_le_bytes-to_le_bytes_8 seed small;
  published = published;
}
