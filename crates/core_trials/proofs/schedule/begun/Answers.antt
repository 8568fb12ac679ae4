use Rattle.std.proofs.Common.{◌≡◌, ◌+◌, length, map, refl, sym, ap, ◌∙◌, subst, arith}
use Rattle.entity_recs.specs.declared.rec.Rec.{Rec}
use Rattle.entity_recs.specs.Commands.{command_of}
use Rattle.core_steps.specs.Nodes.{has}
use Rattle.core_steps.specs.Machine.{Machine}
use Rattle.core_steps.specs.Calls.{MayBeGiven, with_given}
use Rattle.core_seats.specs.Shown.{RulesView, fixed_of}
use Rattle.core_machine.specs.Cores.{machine_of}
use Rattle.core_machine.proofs.Filled.{IsFilled, none_given_yet}
use Rattle.core_trials.proofs.Given.{may_give, given_more}
use Rattle.core_trials.proofs.GivingUp.{own_when_filled}
use Rattle.core_trials.proofs.schedule.begun.Goals as goal

pub new-requires-clause-start : goal.new-requires-clause-start
new-requires-clause-start g c = λ κs within. c.requires.start c.in_ok-tree.tree

pub loop-slot-init : goal.loop-slot-init
loop-slot-init g c =
    let F = fixed_of g.A.Action.meaning c.in_ok-core.core.rules in
    record {
      rules = refl;
      seats = c.in_ok-core.ensures.seats;
      filled = none_given_yet F (machine_of F c.in_ok-core.core) c.args.room.now c.requires.some c.in_ok-core.ensures.machine c.requires.room;
    }

pub give-requires-after_bounds : goal.give-requires-after_bounds
give-requires-after_bounds g c = λ κs within.
    let fixed = λ (r : RulesView g.row.A.Denot). fixed_of g.A.Action.meaning r in
    let F = fixed c.in_ok-core.core.rules in
    let slot = c.loop-slot.slot in
    let live : has F.start.ids slot ≡ _ = ap (λ (r : RulesView g.row.A.Denot). has (map (λ (x : Rec). x.id) r.start) slot) c.in_ok-core.ensures.rules ∙ c.requires.live slot c.loop-slot-test.true in
    let may = may_give F (machine_of F c.loop-slot.core) slot _ c.buttons_of.result c.loop-slot-test.true c.requires.few (omega arith) live c.loop-slot.invariant.filled in
    subst (λ (r : RulesView g.row.A.Denot). MayBeGiven (fixed r) (machine_of (fixed r) c.loop-slot.core) slot (command_of c.command.result)) (sym c.loop-slot.invariant.rules)
    (subst (MayBeGiven F (machine_of F c.loop-slot.core) slot) (sym c.command.ensures.value) may)

pub loop-slot-preserved : goal.loop-slot-preserved
loop-slot-preserved g c =
    let fixed = λ (r : RulesView g.row.A.Denot). fixed_of g.A.Action.meaning r in
    let F = fixed c.in_ok-core.core.rules in
    let slot = c.loop-slot.slot in
    let made = subst (λ (r : RulesView g.row.A.Denot). machine_of (fixed r) c.give.new.self ≡ with_given (machine_of (fixed r) c.loop-slot.core) slot (command_of c.command.result)) c.loop-slot.invariant.rules c.give.ensures.machine in
    record {
      rules = c.give.ensures.rules ∙ c.loop-slot.invariant.rules;
      seats = c.give.ensures.seats ∙ c.loop-slot.invariant.seats;
      filled = subst (λ (m : Machine). IsFilled m (slot + 1) (length c.args.room.now)) (sym (made ∙ ap (with_given (machine_of F c.loop-slot.core) slot) c.command.ensures.value))
          (given_more F (machine_of F c.loop-slot.core) slot (length c.args.room.now) c.buttons_of.result c.loop-slot.invariant.filled);
    }

pub returns-clause-own : goal.returns-clause-own
returns-clause-own g c =
    let core = c.loop-slot.core in
    let F = fixed_of g.A.Action.meaning c.in_ok-core.core.rules in
    let rules = c.loop-slot.invariant.rules ∙ c.in_ok-core.ensures.rules in
    own_when_filled F core c.loop-slot.slot (length c.args.room.now) c.loop-slot.invariant.seats c.requires.few
    (λ j below. ap (λ (r : RulesView g.row.A.Denot). has (map (λ (x : Rec). x.id) r.start) j) rules ∙ c.requires.live j below)
    c.loop-slot.invariant.filled
