use Rattle.player_move.proofs.Looking.{move_looks_within}
use Rattle.player_move.proofs.laws.move_looks_within.Goals as goal

pub returns : goal.returns
returns c = move_looks_within
