use Rattle.player_move.proofs.FreeMoves.{free_players_jump}
use Rattle.player_move.proofs.laws.free_players_jump.Goals as goal

pub returns : goal.returns
returns c = free_players_jump
