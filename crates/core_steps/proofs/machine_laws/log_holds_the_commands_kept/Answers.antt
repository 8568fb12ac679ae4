use Rattle.core_steps.proofs.Kept.{log_holds_the_commands_kept}
use Rattle.core_steps.proofs.machine_laws.log_holds_the_commands_kept.Goals as goal

pub returns : goal.returns
returns c = log_holds_the_commands_kept
