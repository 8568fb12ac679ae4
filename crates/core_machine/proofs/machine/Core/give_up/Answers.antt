use Rattle.std.proofs.Common.{◌<◌, length, refl}
use Rattle.core_steps.specs.Calls.{GiveUp}
use Rattle.core_seats.specs.Shown.{fixed_of}
use Rattle.core_machine.proofs.SeatLists.{rooms_set}
use Rattle.core_machine.proofs.Cores.{core_view, quitting_machine, taking_below, core_called}
use Rattle.core_machine.proofs.machine.Core.give_up.Goals as goal

pub invariant_of-self : goal.invariant_of-self
invariant_of-self g c =
    let F = fixed_of g.A.Action.meaning c.self.inside.rules in
    let seats = c.self.inside.seats.items in
    let may = rw (← c.self.view_is) at c.requires in
    let below : c.from.result < length seats = taking_below seats c.from.result c.args.seat c.from.ensures may in
    record {
      core = core_called F (core_view c.self.inside.rules c.self.inside.words seats) _ (GiveUp c.args.seat) c.self.invariant.core may
          (quitting_machine F c.self.inside.rules c.self.inside.words seats c.from.result c.args.seat c.index_mut.result.now c.from.ensures below c.index_mut.ensures.value)
          c.self.invariant.core.rooms;
      things = rooms_set seats c.from.result c.index_mut.result.now _ below c.index_mut.ensures.value c.self.invariant.things refl;
      near = c.self.invariant.near;
    }

pub returns-clause-machine : goal.returns-clause-machine
returns-clause-machine g c =
    let F = fixed_of g.A.Action.meaning c.self.inside.rules in
    let seats = c.self.inside.seats.items in
    let may = rw (← c.self.view_is) at c.requires in
    let below : c.from.result < length seats = taking_below seats c.from.result c.args.seat c.from.ensures may in
    rw (← c.self.view_is)
    (quitting_machine F c.self.inside.rules c.self.inside.words seats c.from.result c.args.seat c.index_mut.result.now c.from.ensures below c.index_mut.ensures.value)
