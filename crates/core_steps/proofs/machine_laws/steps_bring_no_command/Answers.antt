use Rattle.core_steps.proofs.InHand.{steps_bring_no_command}
use Rattle.core_steps.proofs.machine_laws.steps_bring_no_command.Goals as goal

pub returns : goal.returns
returns c = steps_bring_no_command
