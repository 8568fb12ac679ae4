use Rattle.std.proofs.Common.{ap, ◌∙◌, arith}
use Rattle.std.specs.Prelude.{is_some}
use Rattle.core_steps.specs.Machine.{next_step_of}
use Rattle.core_machine.specs.Cores.{CoreView, machine_of}
use Rattle.core_seats.specs.Shown.{fixed_of}
use Rattle.core_machine.proofs.Cores.{core_view, number_below, seat_ready, seat_step, step_exists}
use Rattle.core_machine.proofs.SeatLists.{few_records}
use Rattle.core_machine.proofs.machine.Core.next_step.Goals as goal

pub resolved-effect-requires-clause-sound : goal.resolved-effect-requires-clause-sound
resolved-effect-requires-clause-sound g c = λ κs within.
    let F = fixed_of g.A.Action.meaning c.self.inside.rules in
    let seats = c.self.inside.seats.items in
    let below = number_below seats c.from.result c.args.seat c.from.ensures (rw (← c.self.view_is) at c.requires) in
    (seat_ready F c.self.inside.rules c.self.inside.words seats c.from.result c.args.seat c.index-one.result.now c.from.ensures below c.index-one.ensures c.self.invariant.core).sound

pub resolved-effect-requires-clause-room : goal.resolved-effect-requires-clause-room
resolved-effect-requires-clause-room g c κs within =
    let F = fixed_of g.A.Action.meaning c.self.inside.rules in
    let few = few_records F _ c.self.invariant.core in
    omega (arith, few, c.self.invariant.near)

pub invariant_of-self : goal.invariant_of-self
invariant_of-self g c = record {
  core = c.self.invariant.core;
  things = c.self.invariant.things;
  near = omega (arith, c.resolved-effect.ensures.room, c.self.invariant.near);
}

pub next_step-requires-after_bounds : goal.next_step-requires-after_bounds
next_step-requires-after_bounds g c = λ κs within.
    let F = fixed_of g.A.Action.meaning c.self.inside.rules in
    let seats = c.self.inside.seats.items in
    let below = number_below seats c.from.result c.args.seat c.from.ensures (rw (← c.self.view_is) at c.requires) in
    rw c.resolved-effect.ensures.effect
    (seat_ready F c.self.inside.rules c.self.inside.words seats c.from.result c.args.seat c.index-one.result.now c.from.ensures below c.index-one.ensures c.self.invariant.core)

pub returns-clause-step : goal.returns-clause-step
returns-clause-step g c =
    let F = fixed_of g.A.Action.meaning c.self.inside.rules in
    let seats = c.self.inside.seats.items in
    let below = number_below seats c.from.result c.args.seat c.from.ensures (rw (← c.self.view_is) at c.requires) in
    c.next_step.ensures
    ∙ seat_step F c.self.inside.rules c.self.inside.words seats c.from.result c.args.seat c.index-one.result.now c.resolved-effect.result c.from.ensures below c.index-one.ensures c.resolved-effect.ensures.effect
    ∙ ap (λ (v : CoreView g.row.A.Denot). let G = fixed_of g.A.Action.meaning v.rules in next_step_of G (machine_of G v) c.args.seat) c.self.view_is

pub returns-clause-some : goal.returns-clause-some
returns-clause-some g c =
    let F = fixed_of g.A.Action.meaning c.self.inside.rules in
    let seats = c.self.inside.seats.items in
    let below = number_below seats c.from.result c.args.seat c.from.ensures (rw (← c.self.view_is) at c.requires) in
    rw (← c.self.view_is)
    (ap is_some (c.next_step.ensures ∙ seat_step F c.self.inside.rules c.self.inside.words seats c.from.result c.args.seat c.index-one.result.now c.resolved-effect.result c.from.ensures below c.index-one.ensures c.resolved-effect.ensures.effect)
    ∙ step_exists F (core_view c.self.inside.rules c.self.inside.words seats) c.args.seat c.self.invariant.core)
