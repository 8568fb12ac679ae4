use Rattle.std.proofs.Common.{[], ◌∷◌, ◌≡◌, true, ap, ◌∙◌, arith, length}
use Rattle.demo_lines.specs.declared.event.Event.TheVariants as events
use Rattle.demo_make.specs.Remaining.{left_of, remaining_events}
use Rattle.demo_make.proofs.Steps.{place, left-end, left-done}
use Rattle.demo_make.proofs.generator.GeneratorIterator.next.Goals as goal

pub returns-then-self-clause-steps : goal.returns-then-self-clause-steps
returns-then-self-clause-steps c =
    let g = c.pass_lost.new.self in
    let done : remaining_events g ≡ [] =
    rw c.if-self.true
    (left-done g.sending g.seed g.players g.opened g.frames_left g.joins_left g.moves_left
    c.pass_lost.ensures.no_join (omega (arith, c.if-self-gt0-2.false)) (omega (arith, c.if-self-gt0-3.false))) in
    (c.pass_lost.ensures.same ∙ done, done)

pub returns-clause-steps : goal.returns-clause-steps
returns-clause-steps c =
    let g = c.pass_lost.new.self in
    let last : remaining_events g
    ≡ events.End ∷ left_of (place g.sending g.seed g.players g.opened g.frames_left g.joins_left g.moves_left true) =
    rw c.if-self.false
    (left-end g.sending g.seed g.players g.opened g.frames_left g.joins_left g.moves_left
    c.pass_lost.ensures.no_join (omega (arith, c.if-self-gt0-2.false)) (omega (arith, c.if-self-gt0-3.false))) in
    c.pass_lost.ensures.same ∙ last

pub returns-clause-goes : goal.returns-clause-goes
returns-clause-goes c =
    let e = returns-clause-steps c in
    record {
      on = λ _. (tt, tt, omega (arith, ap length e));
      keeps = tt;
      rests = λ _. tt;
    }
