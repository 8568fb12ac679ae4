use Rattle.core_progress.proofs.Serving.{some_seat_can_step}
use Rattle.core_progress.proofs.laws.some_seat_can_step.Goals as goal

pub returns : goal.returns
returns c = some_seat_can_step
