use Rattle.core_steps.proofs.Asking.{region_may_be_asked}
use Rattle.core_steps.proofs.machine_laws.region_may_be_asked.Goals as goal

pub returns : goal.returns
returns c = region_may_be_asked
