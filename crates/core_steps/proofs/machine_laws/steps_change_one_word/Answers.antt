use Rattle.core_steps.proofs.OneWord.{steps_change_one_word}
use Rattle.core_steps.proofs.machine_laws.steps_change_one_word.Goals as goal

pub returns : goal.returns
returns c = steps_change_one_word
