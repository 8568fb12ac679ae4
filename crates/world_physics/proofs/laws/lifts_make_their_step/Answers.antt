use Rattle.world_physics.proofs.OwnSteps.{lifts_make_their_step}
use Rattle.world_physics.proofs.laws.lifts_make_their_step.Goals as goal

pub returns : goal.returns
returns c = lifts_make_their_step
