use Rattle.core_progress.proofs.Rounds.{busy_rounds_are_few}
use Rattle.core_progress.proofs.laws.busy_rounds_are_few.Goals as goal

pub returns : goal.returns
returns c = busy_rounds_are_few
