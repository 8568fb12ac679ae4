use Rattle.ruled_words.proofs.Goes as lemma
use Rattle.ruled_words.proofs.rule.laws.steps_keep_the_rule.Goals as goal

pub returns : goal.returns
returns c = λ F rooms s r i sight at given quits next may. lemma.goes F rooms s r i sight at given quits next may
