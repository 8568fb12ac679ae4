use Rattle.world_physics.proofs.Kept.{lifts_stay_on_their_way}
use Rattle.world_physics.proofs.laws.lifts_stay_on_their_way.Goals as goal

pub returns : goal.returns
returns c = lifts_stay_on_their_way
