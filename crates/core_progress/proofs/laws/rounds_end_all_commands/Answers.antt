use Rattle.core_progress.proofs.Rounds.{rounds_end_all_commands}
use Rattle.core_progress.proofs.laws.rounds_end_all_commands.Goals as goal

pub returns : goal.returns
returns c = rounds_end_all_commands
