use Rattle.plain_server.proofs.Begun.{frames_begin}
use Rattle.plain_server.proofs.laws.frames_begin_with_states.Goals as goal

pub returns : goal.returns
returns c = frames_begin
