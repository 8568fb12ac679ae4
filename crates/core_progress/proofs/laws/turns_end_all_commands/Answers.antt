use Rattle.core_progress.proofs.Turns.{turns_end_all_commands}
use Rattle.core_progress.proofs.laws.turns_end_all_commands.Goals as goal

pub returns : goal.returns
returns c = turns_end_all_commands
