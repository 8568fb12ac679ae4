use Rattle.core_progress.proofs.Serving.{seats_step_or_wait}
use Rattle.core_progress.proofs.laws.seats_step_or_wait.Goals as goal

pub returns : goal.returns
returns c = seats_step_or_wait
