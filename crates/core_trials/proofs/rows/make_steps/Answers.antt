use Rattle.std.proofs.Common.{◌≡◌, ℕ, length, sym, ap, ◌∙◌, subst, Some}
use Rattle.core_steps.specs.Machine.{next_step_of}
use Rattle.core_seats.specs.Shown.{fixed_of}
use Rattle.core_machine.specs.Cores.{CoreView, machine_of}
use Rattle.core_trials.specs.Hands.{HasOwnCommands}
use Rattle.core_trials.proofs.GivingUp.{step_seat, own_after_step}
use Rattle.core_trials.proofs.rows.make_steps.Goals as goal

pub returns-then-not-step-clause-own : goal.returns-then-not-step-clause-own
returns-then-not-step-clause-own g c is =
    let F = fixed_of g.A.Action.meaning c.next_step.new.self.rules in
    let m = machine_of F c.next_step.new.self in
    let next = subst (λ (v : CoreView g.row.A.Denot). let G = fixed_of g.A.Action.meaning v.rules in next_step_of G (machine_of G v) c.args.seat ≡ Some c.in-Some.s) (sym c.next_step.ensures.same) (sym c.in-Some.ensures.step) in
    let seat = step_seat F m c.args.seat c.in-Some.s next in
    let here = subst (λ (i : ℕ). next_step_of F m i ≡ Some c.in-Some.s) (sym seat) next in
    own_after_step F c.next_step.new.self c.step.new.self c.in-Some.s.seat c.in-Some.s c.stands.ensures here (λ n comes. c.step.ensures.machine n comes here) c.step.ensures.rules c.step.ensures.seats (subst HasOwnCommands (sym c.next_step.ensures.same) (c.loop.invariant.own is))

pub loop-preserved : goal.loop-preserved
loop-preserved g c = record {
  seats = c.step.ensures.seats ∙ ap (λ (v : CoreView g.row.A.Denot). length v.seats) c.next_step.ensures.same ∙ c.loop.invariant.seats;
  own = λ is.
      let F = fixed_of g.A.Action.meaning c.next_step.new.self.rules in
      let m = machine_of F c.next_step.new.self in
      let next = subst (λ (v : CoreView g.row.A.Denot). let G = fixed_of g.A.Action.meaning v.rules in next_step_of G (machine_of G v) c.args.seat ≡ Some c.in-Some.s) (sym c.next_step.ensures.same) (sym c.in-Some.ensures.step) in
      let seat = step_seat F m c.args.seat c.in-Some.s next in
      let here = subst (λ (i : ℕ). next_step_of F m i ≡ Some c.in-Some.s) (sym seat) next in
      own_after_step F c.next_step.new.self c.step.new.self c.in-Some.s.seat c.in-Some.s c.stands.ensures here (λ n comes. c.step.ensures.machine n comes here) c.step.ensures.rules c.step.ensures.seats (subst HasOwnCommands (sym c.next_step.ensures.same) (c.loop.invariant.own is));
}
