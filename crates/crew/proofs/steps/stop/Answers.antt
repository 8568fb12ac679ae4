use Rattle.std.proofs.Common.{rules}
use Rattle.crew.proofs.Keeping.{stops}
use Rattle.crew.proofs.steps.stop.Goals as goal

pub store-requires : goal.store-requires
store-requires g c = (c.requires.table, search rules, stops g.T.Task.may_run g.T.Task.changes _ _ _ c.requires.free)
