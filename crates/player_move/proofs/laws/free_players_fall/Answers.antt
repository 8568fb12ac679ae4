use Rattle.player_move.proofs.FreeMoves.{free_players_fall}
use Rattle.player_move.proofs.laws.free_players_fall.Goals as goal

pub returns : goal.returns
returns c = free_players_fall
