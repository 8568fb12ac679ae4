use Rattle.core_steps.proofs.Reached.{each_machine_stands}
use Rattle.core_steps.proofs.machine_laws.each_machine_stands.Goals as goal

pub returns : goal.returns
returns c = each_machine_stands
