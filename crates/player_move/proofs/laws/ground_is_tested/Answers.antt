use Rattle.player_move.proofs.Standings.{ground_is_tested}
use Rattle.player_move.proofs.laws.ground_is_tested.Goals as goal

pub returns : goal.returns
returns c = ground_is_tested
