use Rattle.core_steps.proofs.Nexts.{next_exists}
use Rattle.core_steps.proofs.machine_laws.next_exists.Goals as goal

pub returns : goal.returns
returns c = next_exists
