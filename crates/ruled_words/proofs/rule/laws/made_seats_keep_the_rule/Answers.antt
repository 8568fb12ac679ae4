use Rattle.ruled_words.proofs.Making as lemma
use Rattle.ruled_words.proofs.rule.laws.made_seats_keep_the_rule.Goals as goal

pub returns : goal.returns
returns c = λ F rooms room s r sight at rests more small. lemma.makes F rooms room s r sight at rests more small
