use Rattle.std.proofs.Common.{length}
use Rattle.ruled_words.specs.Passes.{fixed_in}
use Rattle.region_locks.proofs.Stepping.{loads_own}
use Rattle.region_lock_trials.proofs.tests.calls.begin.Goals as goal

pub load_rec-requires-clause-next : goal.load_rec-requires-clause-next
load_rec-requires-clause-next g c κs within =
    loads_own (fixed_in g.A.Action.meaning c.args.table.now) (length c.args.table.now.rooms) c.args.table.now.table c.args.pass.now _ _ c.requires.own c.requires.free c.begin.ensures.pass
