use Rattle.world_physics.proofs.Kept.{only_origins_and_states_change}
use Rattle.world_physics.proofs.laws.only_origins_and_states_change.Goals as goal

pub returns : goal.returns
returns c = only_origins_and_states_change
