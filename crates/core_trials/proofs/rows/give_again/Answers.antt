use Rattle.std.proofs.Common.{◌≡◌, ◌<◌, false, length, sym, ap, ◌∙◌, subst}
use Rattle.std.proofs.lemmas.Bool.{eqb-true}
use Rattle.entity_recs.specs.Commands.{Command, command_of}
use Rattle.core_steps.specs.Calls.{has_command}
use Rattle.core_seats.specs.Shown.{fixed_of}
use Rattle.core_machine.specs.Cores.{CoreView, machine_of}
use Rattle.core_trials.specs.Hands.{HasOwnCommands}
use Rattle.core_trials.proofs.GivingUp.{may_give_again}
use Rattle.core_trials.proofs.rows.give_again.Goals as goal

pub give-requires-after_bounds : goal.give-requires-after_bounds
give-requires-after_bounds g c κs within =
    let core = c.next_step.new.self in
    let F = fixed_of g.A.Action.meaning core.rules in
    let same = sym c.next_step.ensures.same in
    let slot = ap (λ (cmd : Command). cmd.slot) c.command.ensures.value in
    let free = subst (λ (v : CoreView g.row.A.Denot). has_command (machine_of (fixed_of g.A.Action.meaning v.rules) v) c.args.seat ≡ false) same
    (sym c.next_step.ensures.some ∙ sym c.is_some.ensures ∙ c.if-is_some.false) in
    let empty = sym c.is_empty.ensures ∙ c.if-not-is_empty.false in
    let own = subst HasOwnCommands same c.requires.own in
    let seat = subst (λ (v : CoreView g.row.A.Denot). c.args.seat < length v.seats) same c.requires.seat in
    may_give_again F core c.args.seat (command_of c.command.result) c.stands.ensures own seat c.command.ensures.command slot
    (own.player c.args.seat seat) free (rw (← c.log.ensures) (eqb-true _ _ empty))
