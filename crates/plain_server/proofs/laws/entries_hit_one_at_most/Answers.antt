use Rattle.plain_server.proofs.HitOnce.{entries_hit_one}
use Rattle.plain_server.proofs.laws.entries_hit_one_at_most.Goals as goal

pub returns : goal.returns
returns c = entries_hit_one
