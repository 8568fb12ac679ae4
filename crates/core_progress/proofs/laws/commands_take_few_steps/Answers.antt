use Rattle.core_progress.proofs.Ends.{commands_take_few_steps}
use Rattle.core_progress.proofs.laws.commands_take_few_steps.Goals as goal

pub returns : goal.returns
returns c = commands_take_few_steps
