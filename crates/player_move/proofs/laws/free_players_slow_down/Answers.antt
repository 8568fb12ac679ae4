use Rattle.player_move.proofs.FreeMoves.{free_players_slow_down}
use Rattle.player_move.proofs.laws.free_players_slow_down.Goals as goal

pub returns : goal.returns
returns c = free_players_slow_down
