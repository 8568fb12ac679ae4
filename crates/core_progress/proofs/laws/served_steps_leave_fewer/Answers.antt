use Rattle.core_progress.proofs.StepsLeft.{served_steps_leave_fewer}
use Rattle.core_progress.proofs.laws.served_steps_leave_fewer.Goals as goal

pub returns : goal.returns
returns c = served_steps_leave_fewer
