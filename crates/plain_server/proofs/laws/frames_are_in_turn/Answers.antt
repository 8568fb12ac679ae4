use Rattle.plain_server.proofs.Turns.{frames_in_turn}
use Rattle.plain_server.proofs.laws.frames_are_in_turn.Goals as goal

pub returns : goal.returns
returns c = frames_in_turn
