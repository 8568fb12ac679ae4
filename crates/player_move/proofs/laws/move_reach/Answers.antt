use Rattle.player_move.proofs.WholeMoves.{move_reach}
use Rattle.player_move.proofs.laws.move_reach.Goals as goal

pub returns : goal.returns
returns c = move_reach
