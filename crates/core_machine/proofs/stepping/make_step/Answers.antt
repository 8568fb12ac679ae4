use Rattle.std.proofs.Common.{sym, ap, ◌∙◌, subst, refl, inl, inr}
use Rattle.std.specs.Prelude.{is_some}
use Rattle.std.specs.Option.{option_map}
use Rattle.core_steps.specs.Stands.{start_words}
use Rattle.core_steps.specs.Machine.{Next, step_of}
use Rattle.core_machine.specs.Tables.{words_in}
use Rattle.core_machine.specs.Seats.{view_of}
use Rattle.core_seats.specs.Shown.{fixed_of}
use Rattle.core_machine.specs.Cores.{seat_of}
use Rattle.core_seats.specs.Nexts.{the_next}
use Rattle.core_machine.specs.Stepping.{IsOnWord, IsStepped}
use Rattle.core_machine.proofs.StepsMade.{comes_next, seat_due}
use Rattle.core_machine.proofs.stepping.make_step.Goals as goal

pub make_next-requires-clause-comes : goal.make_next-requires-clause-comes
make_next-requires-clause-comes g c = λ κs within.
    let F = fixed_of g.A.Action.meaning c.args.rules.now in
    let seat = c.args.seat.now in
    let words = words_in c.args.words.now (start_words F) in
    let comes = comes_next F seat c.resolved-effect.result c.args.s c.resolved-effect.ensures.effect (sym c.next_step.ensures ∙ c.is_next.ensures.same c.if-is_next.true) in
    ap is_some comes.is

pub make_next-requires-clause-word : goal.make_next-requires-clause-word
make_next-requires-clause-word g c = λ κs within.
    let F = fixed_of g.A.Action.meaning c.args.rules.now in
    let seat = c.args.seat.now in
    let words = words_in c.args.words.now (start_words F) in
    let comes = comes_next F seat c.resolved-effect.result c.args.s c.resolved-effect.ensures.effect (sym c.next_step.ensures ∙ c.is_next.ensures.same c.if-is_next.true) in
    subst (IsOnWord F words (view_of seat)) (sym (ap the_next comes.is)) (c.requires.may.on_word comes.next comes.due)

pub make_next-requires-clause-same : goal.make_next-requires-clause-same
make_next-requires-clause-same g c = λ κs within.
    let F = fixed_of g.A.Action.meaning c.args.rules.now in
    let seat = c.args.seat.now in
    let words = words_in c.args.words.now (start_words F) in
    let comes = comes_next F seat c.resolved-effect.result c.args.s c.resolved-effect.ensures.effect (sym c.next_step.ensures ∙ c.is_next.ensures.same c.if-is_next.true) in
    ap (step_of c.args.s.seat (view_of seat)) (ap the_next comes.is) ∙ comes.same

pub returns-then-is_next-clause-made : goal.returns-then-is_next-clause-made
returns-then-is_next-clause-made g c =
    let F = fixed_of g.A.Action.meaning c.args.rules.now in
    let seat = c.args.seat.now in
    let words = words_in c.args.words.now (start_words F) in
    let after = words_in c.make_next.new.words (start_words F) in
    let comes = comes_next F seat c.resolved-effect.result c.args.s c.resolved-effect.ensures.effect (sym c.next_step.ensures ∙ c.is_next.ensures.same c.if-is_next.true) in
    inr (record {
      next = comes.next;
      comes = comes.due;
      same = comes.same;
      stepped = subst (λ (n : Next). IsStepped F c.args.s.seat words after (view_of seat) (seat_of c.make_next.new.seat) n c.make_next.result) (ap the_next comes.is) c.make_next.ensures.stepped;
    })

pub returns-else-is_next-clause-made : goal.returns-else-is_next-clause-made
returns-else-is_next-clause-made g c =
    let F = fixed_of g.A.Action.meaning c.args.rules.now in
    let seat = c.args.seat.now in
    inl (record {
      other = λ same. c.is_next.ensures.other c.if-is_next.false
          (c.next_step.ensures ∙ ap (option_map (step_of c.args.s.seat (view_of seat))) (seat_due F seat c.resolved-effect.result c.resolved-effect.ensures.effect) ∙ same);
      words = refl;
      seat = refl;
      done = c.if-is_next.false;
    })
