use Rattle.world_physics.proofs.Kept.{worlds_stay_valid}
use Rattle.world_physics.proofs.laws.worlds_stay_valid.Goals as goal

pub returns : goal.returns
returns c = worlds_stay_valid
