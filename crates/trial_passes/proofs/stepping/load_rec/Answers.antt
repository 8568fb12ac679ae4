use Rattle.ruled_words.specs.Passes.{fixed_in}
use Rattle.region_locks.proofs.Stepping.{loads_record}
use Rattle.trial_passes.proofs.stepping.load_rec.Goals as goal

pub load_rec-requires-clause-next : goal.load_rec-requires-clause-next
load_rec-requires-clause-next g c κs within =
    loads_record (fixed_in g.A.Action.meaning c.args.table.now) c.args.pass.now c.args.step c.requires.next c.in_ok-slot.slot c.requires.kind c.in_ok-slot.ensures.0 c.in_ok-slot.ensures.1
