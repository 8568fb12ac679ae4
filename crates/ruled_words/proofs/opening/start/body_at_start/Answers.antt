use Rattle.std.proofs.Common.{◌≡◌, ℕ, zero, suc, ◌<◌, List, [], ◌∷◌, get_or, refl, sym, ◌∙◌, ap}
use Rattle.core_steps.proofs.StartWords.{zeros_at}
use Rattle.entity_recs.specs.declared.rec.Rec.{Rec}
use Rattle.core_steps.specs.Encoding.{words_of, nth_word}
use Rattle.world_tree.specs.Worlds.{record_of}
use Rattle.ruled_words.proofs.Worlds.{start_some, none_word, body_at_start}
use Rattle.ruled_words.proofs.opening.start.body_at_start.Goals as goal

pub returns-in-Some-clause-words : goal.returns-in-Some-clause-words
returns-in-Some-clause-words c k five =
    let w = c.args.world.now in
    ap (λ (words : List ℕ). nth_word words k) c.encode.ensures
    ∙ ap (λ (r : Rec). nth_word (words_of r) k)
    (sym (start_some w c.args.slot c.in-Some.r c.get.ensures.linked (ap (record_of w) (sym c.from.ensures) ∙ sym c.get.ensures.record ∙ c.in-Some.is)))
    ∙ body_at_start w c.args.slot k c.requires

-- each of five zeros
zero_word : (k : ℕ) → k < 5 → get_or {A = ℕ} (0 ∷ 0 ∷ 0 ∷ 0 ∷ 0 ∷ []) k 0 ≡ 0
zero_word zero below = refl
zero_word (suc zero) below = refl
zero_word (suc (suc zero)) below = refl
zero_word (suc (suc (suc zero))) below = refl
zero_word (suc (suc (suc (suc k)))) below = zeros_at 1 k

pub returns-in-None-clause-words : goal.returns-in-None-clause-words
returns-in-None-clause-words c k five =
    let w = c.args.world.now in
    zero_word k five ∙ none_word w c.args.slot k c.get.ensures.linked (ap (record_of w) (sym c.from.ensures) ∙ sym c.get.ensures.record ∙ c.in-None.is)
    ∙ body_at_start w c.args.slot k c.requires
