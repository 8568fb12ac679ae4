use Rattle.std.proofs.Common.{refl, ap}
use Rattle.core_steps.specs.Steps as steps
use Rattle.core_machine.specs.Points.{point_of}
use Rattle.core_machine.specs.Seats.{view_of}
use Rattle.core_machine.proofs.seat.Seat.taken.Goals as goal

pub got_first-requires : goal.got_first-requires
got_first-requires c =
    let qs = c.args.self.now.queues in
    c.requires.leaves qs.got.items qs.rest.items (ap (point_of qs) c.in-Taking.is)

pub got_first-requires-in-Claiming : goal.got_first-requires-in-Claiming
got_first-requires-in-Claiming c =
    let qs = c.args.self.now.queues in
    c.requires.nodes qs.got.items qs.rest.items (ap (point_of qs) c.in-Claiming.is)

pub returns-in-Taking-clause-view : goal.returns-in-Taking-clause-view
returns-in-Taking-clause-view c =
    let qs = c.got_first.new.self.queues in
    rw (c.taking.ensures.view, c.got_first.ensures.view (steps.taking qs.got.items qs.rest.items), c.got_first.ensures.got, c.got_first.ensures.rest, c.in-Taking.is) refl

pub returns-in-Claiming-clause-view : goal.returns-in-Claiming-clause-view
returns-in-Claiming-clause-view c =
    let got = c.got_first-in-Claiming in
    rw (got.ensures.view (view_of got.new.self).point, got.ensures.point, c.in-Claiming.is, got.ensures.got, got.ensures.rest) refl
