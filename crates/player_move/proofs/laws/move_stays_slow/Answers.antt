use Rattle.player_move.proofs.Slows.{move_stays_slow}
use Rattle.player_move.proofs.laws.move_stays_slow.Goals as goal

pub returns : goal.returns
returns c = move_stays_slow
