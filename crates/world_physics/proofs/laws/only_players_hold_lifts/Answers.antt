use Rattle.world_physics.proofs.Holding.{only_players_hold_lifts}
use Rattle.world_physics.proofs.laws.only_players_hold_lifts.Goals as goal

pub returns : goal.returns
returns c = only_players_hold_lifts
