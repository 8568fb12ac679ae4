use Rattle.std.proofs.Common.{rules}
use Rattle.crew.proofs.Keeping.{collects}
use Rattle.crew.proofs.steps.collect.Goals as goal

pub compare_exchange-requires : goal.compare_exchange-requires
compare_exchange-requires g c = (c.requires.table, search rules, collects g.T.Task.may_run g.T.Task.changes _ _ _ c.requires.given)
