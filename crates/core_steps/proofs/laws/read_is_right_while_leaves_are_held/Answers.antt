use Rattle.core_steps.proofs.WhileHeld.{read_is_right_while_leaves_are_held}
use Rattle.core_steps.proofs.laws.read_is_right_while_leaves_are_held.Goals as goal

pub returns : goal.returns
returns c = read_is_right_while_leaves_are_held
