use Rattle.player_move.proofs.Farther.{stairs_are_taken}
use Rattle.player_move.proofs.laws.stairs_are_taken.Goals as goal

pub returns : goal.returns
returns c = stairs_are_taken
