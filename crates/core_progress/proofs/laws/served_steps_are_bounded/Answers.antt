use Rattle.core_progress.proofs.Calls.{served_steps_are_bounded}
use Rattle.core_progress.proofs.laws.served_steps_are_bounded.Goals as goal

pub returns : goal.returns
returns c = served_steps_are_bounded
