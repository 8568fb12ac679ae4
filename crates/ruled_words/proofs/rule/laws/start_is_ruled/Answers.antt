use Rattle.ruled_words.proofs.Starting as lemma
use Rattle.ruled_words.proofs.rule.laws.start_is_ruled.Goals as goal

pub returns : goal.returns
returns c = λ F rooms words lawful start depth some few small laid. lemma.start_is_ruled F rooms words lawful start depth some few small laid
