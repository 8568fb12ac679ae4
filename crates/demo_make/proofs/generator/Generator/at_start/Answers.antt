use Rattle.std.proofs.Common.{sym, ◌∙◌}
use Rattle.demo_make.proofs.Drawing.{none-drawn}
use Rattle.demo_make.proofs.Steps.{left-start}
use Rattle.demo_make.proofs.generator.Generator.at_start.Goals as goal

pub invariant_of-result-clause-words_are : goal.invariant_of-result-clause-words_are
invariant_of-result-clause-words_are c = c.words_of.ensures ∙ sym (none-drawn c.args.seed c.args.players 0)

pub invariant_of-result-clause-one_back_is : goal.invariant_of-result-clause-one_back_is
invariant_of-result-clause-one_back_is c = λ _. c.words_of-2.ensures ∙ sym (none-drawn c.args.seed c.args.players 1)

pub invariant_of-result-clause-two_back_is : goal.invariant_of-result-clause-two_back_is
invariant_of-result-clause-two_back_is c = λ _. c.words_of-3.ensures ∙ sym (none-drawn c.args.seed c.args.players 2)

pub returns : goal.returns
returns c = left-start c.args.sending c.args.seed c.args.players c.args.frames
