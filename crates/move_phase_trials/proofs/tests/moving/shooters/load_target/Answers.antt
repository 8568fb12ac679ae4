use Rattle.std.proofs.Common.{length, Some, ap, ◌∙◌}
use Rattle.ruled_words.specs.Passes.{fixed_in}
use Rattle.region_locks.proofs.Stepping.{loads_own}
use Rattle.move_phase_trials.proofs.tests.moving.shooters.load_target.Goals as goal

pub load_rec-requires-clause-next : goal.load_rec-requires-clause-next
load_rec-requires-clause-next g c κs within =
    loads_own (fixed_in g.A.Action.meaning c.args.table.now) (length c.args.table.now.rooms) c.args.table.now.table c.args.pass.now _ _ c.requires.free.own c.requires.free.free c.begin.ensures.pass
    ∙ ap Some c.shot.ensures
