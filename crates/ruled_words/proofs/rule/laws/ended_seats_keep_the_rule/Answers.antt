use Rattle.ruled_words.proofs.Ending as lemma
use Rattle.ruled_words.proofs.rule.laws.ended_seats_keep_the_rule.Goals as goal

pub returns : goal.returns
returns c = λ F rooms s r i sight ended at other there rests rests_too. lemma.ends F rooms s r i sight ended at other there rests rests_too
