use Rattle.core_steps.proofs.Rowing.{near_row}
use Rattle.core_steps.proofs.machine_laws.refused_take_is_right.Goals as goal

pub returns : goal.returns
returns c = near_row
