use Rattle.plain_server.proofs.Ending.{frames_end}
use Rattle.plain_server.proofs.laws.frames_end_with_their_moves.Goals as goal

pub returns : goal.returns
returns c = frames_end
