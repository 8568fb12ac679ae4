use Rattle.world_physics.proofs.Holding.{lifts_step_in_turn}
use Rattle.world_physics.proofs.laws.lifts_step_in_turn.Goals as goal

pub returns : goal.returns
returns c = lifts_step_in_turn
