use Rattle.core_steps.proofs.Layouts.{layout_is_right}
use Rattle.core_steps.proofs.laws.layout_is_right.Goals as goal

pub returns : goal.returns
returns c = layout_is_right
