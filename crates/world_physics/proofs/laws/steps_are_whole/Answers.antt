use Rattle.world_physics.proofs.WholeSteps.{steps_are_whole}
use Rattle.world_physics.proofs.laws.steps_are_whole.Goals as goal

pub returns : goal.returns
returns c = steps_are_whole
