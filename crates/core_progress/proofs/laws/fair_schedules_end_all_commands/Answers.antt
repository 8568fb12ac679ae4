use Rattle.core_progress.proofs.Schedules.{fair_schedules_end_all_commands}
use Rattle.core_progress.proofs.laws.fair_schedules_end_all_commands.Goals as goal

pub returns : goal.returns
returns c = fair_schedules_end_all_commands
