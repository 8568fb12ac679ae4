use Rattle.core_steps.proofs.Reached.{quitting_stands}
use Rattle.core_steps.proofs.machine_laws.quitting_stands.Goals as goal

pub returns : goal.returns
returns c = quitting_stands
