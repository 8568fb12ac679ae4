use Rattle.plain_server.proofs.FirstTick.{frames_begin_so}
use Rattle.plain_server.proofs.laws.frames_begin_with_their_tick.Goals as goal

pub returns : goal.returns
returns c = frames_begin_so
