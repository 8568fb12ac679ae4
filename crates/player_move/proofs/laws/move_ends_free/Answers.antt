use Rattle.player_move.proofs.Ending.{move_ends_free}
use Rattle.player_move.proofs.laws.move_ends_free.Goals as goal

pub returns : goal.returns
returns c = move_ends_free
