use Rattle.player_move.proofs.FreeMoves.{free_moves_go_by_the_rules}
use Rattle.player_move.proofs.laws.free_moves_go_by_the_rules.Goals as goal

pub returns : goal.returns
returns c = free_moves_go_by_the_rules
