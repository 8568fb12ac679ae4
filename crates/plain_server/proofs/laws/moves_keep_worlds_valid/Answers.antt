use Rattle.plain_server.proofs.Moves.{moves_keep_valid}
use Rattle.plain_server.proofs.laws.moves_keep_worlds_valid.Goals as goal

pub returns : goal.returns
returns c = moves_keep_valid
