use Rattle.player_move.proofs.Farther.{move_goes_no_less_far}
use Rattle.player_move.proofs.laws.move_goes_no_less_far.Goals as goal

pub returns : goal.returns
returns c = move_goes_no_less_far
