use Rattle.ruled_words.proofs.Closing as lemma
use Rattle.ruled_words.proofs.rule.laws.closed_table_is_its_run.Goals as goal

pub returns : goal.returns
returns c = λ F rooms s r sight at rests others. (lemma.closes F rooms s r sight at rests others, lemma.refusals F rooms s r sight at rests others)
