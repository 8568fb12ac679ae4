use Rattle.ruled_words.proofs.HolderWords as lemma
use Rattle.ruled_words.proofs.rule.laws.held_words_name_their_holder.Goals as goal

pub returns : goal.returns
returns c = lemma.held_words_name_their_holder
