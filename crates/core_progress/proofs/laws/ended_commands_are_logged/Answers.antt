use Rattle.core_progress.proofs.Ends.{ended_commands_are_logged}
use Rattle.core_progress.proofs.laws.ended_commands_are_logged.Goals as goal

pub returns : goal.returns
returns c = ended_commands_are_logged
