use Rattle.crew.proofs.Handing.{free_from_rested}
use Rattle.crew.proofs.desk.Desk.stop.Goals as goal

pub stop-requires-clause-free : goal.stop-requires-clause-free
stop-requires-clause-free g c = free_from_rested _ c.requires.rested
