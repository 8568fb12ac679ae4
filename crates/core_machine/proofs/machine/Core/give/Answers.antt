use Rattle.std.proofs.Common.{◌<◌, length, refl}
use Rattle.entity_recs.specs.Commands.{command_of}
use Rattle.core_steps.specs.Calls.{Give}
use Rattle.core_seats.specs.Shown.{fixed_of}
use Rattle.core_machine.proofs.SeatLists.{rooms_set}
use Rattle.core_machine.proofs.Cores.{core_view, given_machine, live_below, core_called}
use Rattle.core_machine.proofs.machine.Core.give.Goals as goal

pub invariant_of-self : goal.invariant_of-self
invariant_of-self g c =
    let F = fixed_of g.A.Action.meaning c.self.inside.rules in
    let seats = c.self.inside.seats.items in
    let may = rw (← c.self.view_is) at c.requires in
    let below : c.from.result < length seats = live_below seats c.from.result c.args.seat c.from.ensures may.pending.lives in
    record {
      core = core_called F (core_view c.self.inside.rules c.self.inside.words seats) _ (Give c.args.seat (command_of c.args.cmd)) c.self.invariant.core may
          (given_machine F c.self.inside.rules c.self.inside.words seats c.from.result c.args.seat c.index_mut.result.now c.args.cmd c.from.ensures below c.index_mut.ensures.value)
          c.self.invariant.core.rooms;
      things = rooms_set seats c.from.result c.index_mut.result.now _ below c.index_mut.ensures.value c.self.invariant.things refl;
      near = c.self.invariant.near;
    }

pub returns-clause-machine : goal.returns-clause-machine
returns-clause-machine g c =
    let F = fixed_of g.A.Action.meaning c.self.inside.rules in
    let seats = c.self.inside.seats.items in
    let may = rw (← c.self.view_is) at c.requires in
    let below : c.from.result < length seats = live_below seats c.from.result c.args.seat c.from.ensures may.pending.lives in
    rw (← c.self.view_is)
    (given_machine F c.self.inside.rules c.self.inside.words seats c.from.result c.args.seat c.index_mut.result.now c.args.cmd c.from.ensures below c.index_mut.ensures.value)
