use Rattle.core_steps.proofs.TableWords.{unused_words_are_zero}
use Rattle.core_steps.proofs.laws.unused_words_are_zero.Goals as goal

pub returns : goal.returns
returns c = unused_words_are_zero
