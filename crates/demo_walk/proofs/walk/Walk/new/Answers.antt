use Rattle.std.proofs.Common.{◌≡◌, ℕ, ◌∙◌, refl}
use Rattle.demo_make.specs.Words.{state_after}
use Rattle.demo_walk.proofs.Steps.{left-start}
use Rattle.demo_walk.proofs.walk.Walk.new.Goals as goal

none-drawn : (seed : ℕ) → seed ≡ state_after seed 0
unfolding state_after
none-drawn seed = refl

pub invariant_of-result-clause-words_are : goal.invariant_of-result-clause-words_are
invariant_of-result-clause-words_are c = c.words_of.ensures ∙ none-drawn c.args.seed

pub returns : goal.returns
returns c = left-start c.args.seed c.args.players c.args.places c.args.frames
