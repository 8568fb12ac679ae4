use Rattle.ruled_words.proofs.UnusedWords as lemma
use Rattle.ruled_words.proofs.rule.laws.unused_words_stay_zero.Goals as goal

pub returns : goal.returns
returns c = lemma.unused_words_stay_zero
