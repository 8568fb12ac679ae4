use Rattle.core_steps.proofs.Reached.{machine_start_stands}
use Rattle.core_steps.proofs.machine_laws.machine_start_stands.Goals as goal

pub returns : goal.returns
returns c = machine_start_stands
