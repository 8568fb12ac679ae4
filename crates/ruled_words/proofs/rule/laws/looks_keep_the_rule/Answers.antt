use Rattle.ruled_words.proofs.Looking as lemma
use Rattle.ruled_words.proofs.rule.laws.looks_keep_the_rule.Goals as goal

pub returns : goal.returns
returns c = λ F rooms s r i sight at rests. lemma.looks F rooms s r i sight at rests
