use Rattle.core_steps.proofs.Following.{steps_follow_their_word}
use Rattle.core_steps.proofs.machine_laws.steps_follow_their_word.Goals as goal

pub returns : goal.returns
returns c = steps_follow_their_word
