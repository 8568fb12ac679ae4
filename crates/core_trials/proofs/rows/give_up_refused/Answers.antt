use Rattle.std.proofs.Common.{◌≡◌, ℕ, true, sym, subst, Some}
use Rattle.core_steps.specs.Steps.{is_taking}
use Rattle.core_steps.specs.Machine.{next_step_of}
use Rattle.core_seats.specs.Shown.{fixed_of}
use Rattle.core_machine.specs.Cores.{CoreView, machine_of}
use Rattle.core_trials.specs.Hands.{HasOwnCommands}
use Rattle.core_trials.proofs.GivingUp.{step_seat, own_after_step, own_after_quitting}
use Rattle.core_trials.proofs.rows.give_up_refused.Goals as goal

pub give_up-requires-after_bounds : goal.give_up-requires-after_bounds
give_up-requires-after_bounds g c κs within =
    let F = fixed_of g.A.Action.meaning c.next_step.new.self.rules in
    let m = machine_of F c.next_step.new.self in
    let next = subst (λ (v : CoreView g.row.A.Denot). let G = fixed_of g.A.Action.meaning v.rules in next_step_of G (machine_of G v) c.args.seat ≡ Some c.in-Some.s) (sym c.next_step.ensures.same) (sym c.in-Some.ensures.step) in
    let seat = step_seat F m c.args.seat c.in-Some.s next in
    subst (λ (i : ℕ). is_taking ((machine_of F c.step.new.self).core.view i).point ≡ true) seat
    (c.step.ensures.may_give_up (subst (λ (i : ℕ). next_step_of F m i ≡ Some c.in-Some.s) (sym seat) next) c.if-step.false)

pub returns-then-step-clause-own : goal.returns-then-step-clause-own
returns-then-step-clause-own g c =
    let F = fixed_of g.A.Action.meaning c.next_step.new.self.rules in
    let m = machine_of F c.next_step.new.self in
    let next = subst (λ (v : CoreView g.row.A.Denot). let G = fixed_of g.A.Action.meaning v.rules in next_step_of G (machine_of G v) c.args.seat ≡ Some c.in-Some.s) (sym c.next_step.ensures.same) (sym c.in-Some.ensures.step) in
    let seat = step_seat F m c.args.seat c.in-Some.s next in
    let here = subst (λ (i : ℕ). next_step_of F m i ≡ Some c.in-Some.s) (sym seat) next in
    λ is. own_after_step F c.next_step.new.self c.step.new.self c.in-Some.s.seat c.in-Some.s c.stands.ensures here (λ n comes. c.step.ensures.machine n comes here) c.step.ensures.rules c.step.ensures.seats
    (subst HasOwnCommands (sym c.next_step.ensures.same) is)

pub returns-clause-own : goal.returns-clause-own
returns-clause-own g c is =
    let G = fixed_of g.A.Action.meaning c.step.new.self.rules in
    let F = fixed_of g.A.Action.meaning c.next_step.new.self.rules in
    let m = machine_of F c.next_step.new.self in
    let next = subst (λ (v : CoreView g.row.A.Denot). let G = fixed_of g.A.Action.meaning v.rules in next_step_of G (machine_of G v) c.args.seat ≡ Some c.in-Some.s) (sym c.next_step.ensures.same) (sym c.in-Some.ensures.step) in
    let seat = step_seat F m c.args.seat c.in-Some.s next in
    let here = subst (λ (i : ℕ). next_step_of F m i ≡ Some c.in-Some.s) (sym seat) next in
    let stepped = own_after_step F c.next_step.new.self c.step.new.self c.in-Some.s.seat c.in-Some.s c.stands.ensures here (λ n comes. c.step.ensures.machine n comes here) c.step.ensures.rules c.step.ensures.seats (subst HasOwnCommands (sym c.next_step.ensures.same) is) in
    own_after_quitting G c.step.new.self c.give_up.new.self c.args.seat c.give_up.ensures.machine c.give_up.ensures.rules c.give_up.ensures.seats stepped
