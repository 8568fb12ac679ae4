use Rattle.std.proofs.Common.{◌≡◌, ◌<◌, ◌++◌, ℕ, true, false, if◌then◌else◌, length, set, subst, Some, arith}
use Rattle.std.specs.Prelude.{◌==◌}
use Rattle.core_steps.specs.Steps.{is_taking}
use Rattle.core_steps.specs.Machine.{Next, next_of, next_step_of, machine_after, items_after}
use Rattle.core_seats.specs.Shown.{fixed_of}
use Rattle.core_machine.specs.Cores.{CoreView, machine_of}
use Rattle.core_machine.proofs.Cores.{core_view}
use Rattle.core_machine.proofs.SeatLists.{few_records, room_for, rooms_set}
use Rattle.core_machine.proofs.CoreSteps.{seat_may_step, outcome, outcome_core, outcome_done, outcome_other, outcome_machine, outcome_refused, outcome_logs, outcome_may_give_up}
use Rattle.core_machine.proofs.machine.Core.step.Goals as goal

pub make_step-requires-clause-may : goal.make_step-requires-clause-may
make_step-requires-clause-may g c = λ κs within.
    let F = fixed_of g.A.Action.meaning c.self.inside.rules in
    let rules = c.self.inside.rules in
    let words = c.self.inside.words in
    let seats = c.self.inside.seats.items in
    let i = c.from-i.result in
    let below : i < length seats = omega (arith, c.if-i-len.false, c.len.ensures) in
    seat_may_step F rules words seats i c.args.s.seat c.index_mut.result.now c.from-i.ensures below c.index_mut.ensures.value c.self.invariant.core

pub make_step-requires-clause-things : goal.make_step-requires-clause-things
make_step-requires-clause-things g c κs within =
    let F = fixed_of g.A.Action.meaning c.self.inside.rules in
    let seats = c.self.inside.seats.items in
    let i = c.from-i.result in
    let below : i < length seats = omega (arith, c.if-i-len.false, c.len.ensures) in
    room_for F seats i c.index_mut.result.now below c.index_mut.ensures.value c.self.invariant.things (few_records F _ c.self.invariant.core)

pub make_step-requires-clause-near : goal.make_step-requires-clause-near
make_step-requires-clause-near g c κs within =
    let F = fixed_of g.A.Action.meaning c.self.inside.rules in
    let few = few_records F _ c.self.invariant.core in
    omega (arith, few, c.self.invariant.near)

pub invariant_of-self : goal.invariant_of-self
invariant_of-self g c =
    let F = fixed_of g.A.Action.meaning c.self.inside.rules in
    let rules = c.self.inside.rules in
    let words = c.self.inside.words in
    let seats = c.self.inside.seats.items in
    let i = c.from-i.result in
    let below : i < length seats = omega (arith, c.if-i-len.false, c.len.ensures) in
    let old = core_view rules words seats in
    let new = core_view rules c.make_step.new.words (set seats i c.make_step.new.seat) in
    let made = outcome F rules words c.make_step.new.words seats i c.args.s c.index_mut.result.now c.make_step.new.seat c.make_step.result c.from-i.ensures below c.index_mut.ensures.value c.self.invariant.core c.make_step.ensures.made in
    record {
      core = outcome_core F old new c.args.s c.make_step.result c.self.invariant.core made;
      things = rooms_set seats i c.index_mut.result.now c.make_step.new.seat below c.index_mut.ensures.value c.self.invariant.things c.make_step.ensures.things;
      near = omega (arith, c.make_step.ensures.near, c.self.invariant.near);
    }

pub returns-clause-done : goal.returns-clause-done
returns-clause-done g c =
    let F = fixed_of g.A.Action.meaning c.self.inside.rules in
    let rules = c.self.inside.rules in
    let words = c.self.inside.words in
    let seats = c.self.inside.seats.items in
    let i = c.from-i.result in
    let below : i < length seats = omega (arith, c.if-i-len.false, c.len.ensures) in
    let old = core_view rules words seats in
    let new = core_view rules c.make_step.new.words (set seats i c.make_step.new.seat) in
    let made = outcome F rules words c.make_step.new.words seats i c.args.s c.index_mut.result.now c.make_step.new.seat c.make_step.result c.from-i.ensures below c.index_mut.ensures.value c.self.invariant.core c.make_step.ensures.made in
    rw (← c.self.view_is) (outcome_done F old new c.args.s c.make_step.result c.self.invariant.core made)

pub returns-clause-other : goal.returns-clause-other
returns-clause-other g c =
    let F = fixed_of g.A.Action.meaning c.self.inside.rules in
    let rules = c.self.inside.rules in
    let words = c.self.inside.words in
    let seats = c.self.inside.seats.items in
    let i = c.from-i.result in
    let below : i < length seats = omega (arith, c.if-i-len.false, c.len.ensures) in
    let old = core_view rules words seats in
    let new = core_view rules c.make_step.new.words (set seats i c.make_step.new.seat) in
    let made = outcome F rules words c.make_step.new.words seats i c.args.s c.index_mut.result.now c.make_step.new.seat c.make_step.result c.from-i.ensures below c.index_mut.ensures.value c.self.invariant.core c.make_step.ensures.made in
    subst (λ (v : CoreView g.row.A.Denot). let G = fixed_of g.A.Action.meaning v.rules in let m = machine_of G v in (next_step_of G m c.args.s.seat ≡ Some c.args.s → ⊥) → new ≡ v) c.self.view_is
    (outcome_other F old new c.args.s c.make_step.result made)

pub returns-clause-machine : goal.returns-clause-machine
returns-clause-machine g c =
    let F = fixed_of g.A.Action.meaning c.self.inside.rules in
    let rules = c.self.inside.rules in
    let words = c.self.inside.words in
    let seats = c.self.inside.seats.items in
    let i = c.from-i.result in
    let below : i < length seats = omega (arith, c.if-i-len.false, c.len.ensures) in
    let old = core_view rules words seats in
    let new = core_view rules c.make_step.new.words (set seats i c.make_step.new.seat) in
    let made = outcome F rules words c.make_step.new.words seats i c.args.s c.index_mut.result.now c.make_step.new.seat c.make_step.result c.from-i.ensures below c.index_mut.ensures.value c.self.invariant.core c.make_step.ensures.made in
    subst (λ (v : CoreView g.row.A.Denot). let G = fixed_of g.A.Action.meaning v.rules in let m = machine_of G v in (next : Next) → next_of G m c.args.s.seat ≡ Some next → next_step_of G m c.args.s.seat ≡ Some c.args.s
    → machine_of G new ≡ machine_after G m c.args.s.seat next) c.self.view_is
    (outcome_machine F old new c.args.s c.make_step.result made)

pub returns-clause-refused : goal.returns-clause-refused
returns-clause-refused g c =
    let F = fixed_of g.A.Action.meaning c.self.inside.rules in
    let rules = c.self.inside.rules in
    let words = c.self.inside.words in
    let seats = c.self.inside.seats.items in
    let i = c.from-i.result in
    let below : i < length seats = omega (arith, c.if-i-len.false, c.len.ensures) in
    let old = core_view rules words seats in
    let new = core_view rules c.make_step.new.words (set seats i c.make_step.new.seat) in
    let made = outcome F rules words c.make_step.new.words seats i c.args.s c.index_mut.result.now c.make_step.new.seat c.make_step.result c.from-i.ensures below c.index_mut.ensures.value c.self.invariant.core c.make_step.ensures.made in
    rw (← c.self.view_is) (outcome_refused F old new c.args.s c.make_step.result c.self.invariant.core made)

pub returns-clause-logs : goal.returns-clause-logs
returns-clause-logs g c =
    let F = fixed_of g.A.Action.meaning c.self.inside.rules in
    let rules = c.self.inside.rules in
    let words = c.self.inside.words in
    let seats = c.self.inside.seats.items in
    let i = c.from-i.result in
    let below : i < length seats = omega (arith, c.if-i-len.false, c.len.ensures) in
    let old = core_view rules words seats in
    let new = core_view rules c.make_step.new.words (set seats i c.make_step.new.seat) in
    let made = outcome F rules words c.make_step.new.words seats i c.args.s c.index_mut.result.now c.make_step.new.seat c.make_step.result c.from-i.ensures below c.index_mut.ensures.value c.self.invariant.core c.make_step.ensures.made in
    subst (λ (v : CoreView g.row.A.Denot). let G = fixed_of g.A.Action.meaning v.rules in let m = machine_of G v in (next : Next) (seat : ℕ) → next_of G m c.args.s.seat ≡ Some next → next_step_of G m c.args.s.seat ≡ Some c.args.s
    → ((machine_of G new).core.view seat).log ≡ (if seat == c.args.s.seat then (m.core.view c.args.s.seat).log ++ items_after m.core c.args.s.seat next else (m.core.view seat).log)) c.self.view_is
    (outcome_logs F old new c.args.s c.make_step.result made)

pub returns-clause-may_give_up : goal.returns-clause-may_give_up
returns-clause-may_give_up g c =
    let F = fixed_of g.A.Action.meaning c.self.inside.rules in
    let rules = c.self.inside.rules in
    let words = c.self.inside.words in
    let seats = c.self.inside.seats.items in
    let i = c.from-i.result in
    let below : i < length seats = omega (arith, c.if-i-len.false, c.len.ensures) in
    let old = core_view rules words seats in
    let new = core_view rules c.make_step.new.words (set seats i c.make_step.new.seat) in
    let made = outcome F rules words c.make_step.new.words seats i c.args.s c.index_mut.result.now c.make_step.new.seat c.make_step.result c.from-i.ensures below c.index_mut.ensures.value c.self.invariant.core c.make_step.ensures.made in
    subst (λ (v : CoreView g.row.A.Denot). let G = fixed_of g.A.Action.meaning v.rules in next_step_of G (machine_of G v) c.args.s.seat ≡ Some c.args.s → c.make_step.result ≡ false
    → is_taking ((machine_of G new).core.view c.args.s.seat).point ≡ true) c.self.view_is
    (outcome_may_give_up F old new c.args.s c.make_step.result c.self.invariant.core made)
