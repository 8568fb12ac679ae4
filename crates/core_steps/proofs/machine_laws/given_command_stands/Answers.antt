use Rattle.core_steps.proofs.Reached.{given_command_stands}
use Rattle.core_steps.proofs.machine_laws.given_command_stands.Goals as goal

pub returns : goal.returns
returns c = given_command_stands
