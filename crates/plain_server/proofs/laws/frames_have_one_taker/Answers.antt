use Rattle.plain_server.proofs.Takers.{one_taker, returns_later}
use Rattle.plain_server.proofs.laws.frames_have_one_taker.Goals as goal

pub returns : goal.returns
returns c = record {
  once = one_taker;
  away = returns_later;
}
