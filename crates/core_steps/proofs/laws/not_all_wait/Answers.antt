use Rattle.core_steps.proofs.Waiting.{not_all_wait}
use Rattle.core_steps.proofs.laws.not_all_wait.Goals as goal

pub returns : goal.returns
returns c = not_all_wait
