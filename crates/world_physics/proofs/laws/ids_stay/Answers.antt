use Rattle.world_physics.proofs.Kept.{ids_stay}
use Rattle.world_physics.proofs.laws.ids_stay.Goals as goal

pub returns : goal.returns
returns c = ids_stay
