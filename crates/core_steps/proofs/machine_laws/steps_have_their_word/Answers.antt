use Rattle.core_steps.proofs.TableWords.{steps_have_their_word}
use Rattle.core_steps.proofs.machine_laws.steps_have_their_word.Goals as goal

pub returns : goal.returns
returns c = steps_have_their_word
