use Rattle.std.proofs.Common.{ap}
use Rattle.core_machine.specs.Points.{point_of}
use Rattle.core_machine.proofs.seat.Seat.give_next.Goals as goal

pub visit_next-requires-clause-player : goal.visit_next-requires-clause-player
visit_next-requires-clause-player g c κs within =
    let qs = c.args.self.now.queues in
    c.requires.player c.in-Leaving.node qs.plan.items (ap (point_of qs) c.in-Leaving.is)
