use Rattle.player_move.proofs.Climbing.{stairs_go_up_and_down}
use Rattle.player_move.proofs.laws.stairs_go_up_and_down.Goals as goal

pub returns : goal.returns
returns c = stairs_go_up_and_down
