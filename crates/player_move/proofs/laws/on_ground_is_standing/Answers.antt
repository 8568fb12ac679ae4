use Rattle.player_move.proofs.Standings.{on_ground_is_standing}
use Rattle.player_move.proofs.laws.on_ground_is_standing.Goals as goal

pub returns : goal.returns
returns c = on_ground_is_standing
