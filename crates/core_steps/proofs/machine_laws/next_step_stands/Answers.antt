use Rattle.core_steps.proofs.NextSteps.{next_step_stands}
use Rattle.core_steps.proofs.machine_laws.next_step_stands.Goals as goal

pub returns : goal.returns
returns c = next_step_stands
