use Rattle.core_steps.proofs.Rowing.{first_view}
use Rattle.core_steps.proofs.machine_laws.first_view_is_right.Goals as goal

pub returns : goal.returns
returns c = first_view
