use Rattle.std.proofs.Common.{rules}
use Rattle.crew.proofs.Keeping.{offers}
use Rattle.crew.proofs.steps.hand_over.Goals as goal

pub store-requires : goal.store-requires
store-requires g c = (c.requires.table, search rules, offers g.T.Task.may_run g.T.Task.changes _ _ _ c.requires.ready)
