use Rattle.world_physics.proofs.Riders.{players_go_along}
use Rattle.world_physics.proofs.laws.players_go_along.Goals as goal

pub returns : goal.returns
returns c = players_go_along
