use Rattle.std.proofs.Common.{◌≡◌, Bool, ap, sym, ◌∙◌, subst, ◌<◌, ◌+◌, ◌^◌}
use Rattle.core_steps.specs.declared.step.StepKind.TheVariants.{Commit}
use Rattle.core_steps.specs.Machine.{kind_of}
use Rattle.core_seats.specs.Going.{view_found}
use Rattle.core_seats.specs.Nexts.{next_with, the_next}
use Rattle.core_machine.specs.Seats.{view_of, given_of, things_room}
use Rattle.core_seats.specs.Shown.{fixed_of}
use Rattle.core_machine.proofs.seat.Seat.go.Goals as goal
use Rattle.core_machine.proofs.seat.Seat.go.Goals.{then-self, else-self}

pub go_on-requires-clause-count : goal.go_on-requires-clause-count
go_on-requires-clause-count g c κs within =
    let F = fixed_of g.A.Action.meaning c.args.rules.now in
    subst (λ (quits : Bool). kind_of (the_next (next_with F (view_of c.args.self.now) (given_of c.args.self.now) quits c.args.effect.now)) ≡ Commit → c.args.found + 1 < 2 ^ 64) c.if-self.false
    c.requires.count

pub returns-clause-view : goal.returns-clause-view
returns-clause-view g c =
    let F = fixed_of g.A.Action.meaning c.args.rules.now in
    let view = view_of c.args.self.now in
    let is : view_of c.if-self.self ≡ view_found F view (the_next (next_with F view (given_of c.args.self.now) c.args.self.now.quits c.args.effect.now)) c.args.found =
    elim c.if-self.branch [
      | then-self w ↦
          subst (λ (quits : Bool). view_of c.if-self.self ≡ view_found F view (the_next (next_with F view (given_of c.args.self.now) quits c.args.effect.now)) c.args.found) (sym w.if-self.true)
          (ap view_of w.self-is ∙ w.give_up.ensures.view)
      | else-self w ↦
          subst (λ (quits : Bool). view_of c.if-self.self ≡ view_found F view (the_next (next_with F view (given_of c.args.self.now) quits c.args.effect.now)) c.args.found) (sym w.if-self.false)
          (ap view_of w.self-is ∙ w.go_on.ensures.view)
    ] in
    is

pub returns-clause-things : goal.returns-clause-things
returns-clause-things g c =
    let is : things_room c.if-self.self ≡ things_room c.args.self.now =
    elim c.if-self.branch [
      | then-self w ↦ ap things_room w.self-is ∙ w.give_up.ensures.things
      | else-self w ↦ ap things_room w.self-is ∙ w.go_on.ensures.things
    ] in
    is
