use Rattle.feed_queue.proofs.Keeping.{begins}
use Rattle.feed_queue.proofs.gathering.gather_as.Goals as goal

pub ruled-requires-clause-rule : goal.ruled-requires-clause-rule
ruled-requires-clause-rule g c = begins g.N.Ported.ports
