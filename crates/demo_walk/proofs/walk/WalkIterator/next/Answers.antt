use Rattle.std.proofs.Common.{[], ◌≡◌, ap, arith, length}
use Rattle.demo_walk.specs.Remaining.{remaining_events}
use Rattle.demo_walk.proofs.Steps.{left-end, left-done}
use Rattle.demo_walk.proofs.walk.WalkIterator.next.Goals as goal

pub returns-then-self-clause-steps : goal.returns-then-self-clause-steps
returns-then-self-clause-steps c =
    let w = c.args.self.now in
    let done : remaining_events w ≡ [] =
    rw c.if-self.true
    (left-done w.seed w.players w.places w.opened w.frames_left w.joined w.joins_left w.moves_left
    (omega (arith, c.if-self-gt0.false)) (omega (arith, c.if-self-gt0-2.false)) (omega (arith, c.if-self-gt0-3.false))) in
    (done, done)

pub returns-clause-steps : goal.returns-clause-steps
returns-clause-steps c =
    let w = c.args.self.now in
    rw c.if-self.false
    (left-end w.seed w.players w.places w.opened w.frames_left w.joined w.joins_left w.moves_left
    (omega (arith, c.if-self-gt0.false)) (omega (arith, c.if-self-gt0-2.false)) (omega (arith, c.if-self-gt0-3.false)))

pub returns-clause-goes : goal.returns-clause-goes
returns-clause-goes c =
    let e = returns-clause-steps c in
    record {
      on = λ _. (tt, tt, omega (arith, ap length e));
      keeps = tt;
      rests = λ _. tt;
    }
