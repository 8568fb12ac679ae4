use Rattle.world_physics.proofs.Standing.{standing_is_known}
use Rattle.world_physics.proofs.laws.standing_is_known.Goals as goal

pub returns : goal.returns
returns c = standing_is_known
