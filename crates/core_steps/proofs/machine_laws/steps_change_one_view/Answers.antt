use Rattle.core_steps.proofs.OneView.{steps_change_one_view}
use Rattle.core_steps.proofs.machine_laws.steps_change_one_view.Goals as goal

pub returns : goal.returns
returns c = steps_change_one_view
