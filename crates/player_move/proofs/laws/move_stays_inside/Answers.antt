use Rattle.player_move.proofs.Insides.{move_stays_inside}
use Rattle.player_move.proofs.laws.move_stays_inside.Goals as goal

pub returns : goal.returns
returns c = move_stays_inside
