use Rattle.std.proofs.Common.{◌≢◌, [], false, IsTrue, Err, refl, ap, ◌∙◌}
use Rattle.std.proofs.lemmas.Result.{err_from_is_err_and}
use Rattle.arena_actions.specs.MapActions.{map_in}
use Rattle.arena_actions.proofs.OfItsMap.{keeps_rules}
use Rattle.transcript_check.proofs.ReadingOn.{fails-after}
use Rattle.transcript_check.proofs.Turns.{ready-first}
use Rattle.transcript_check.proofs.MovesRead.{so-far-first, so-far-next, so-far-missed, so-far-looked, so-far-done}
use Rattle.transcript_check.proofs.comparison.Comparison.expect_moves.Goals as goal

pub loop-self-init : goal.loop-self-init
loop-self-init g c =
    let action = c.args.self.now.mover.action in
    record {
      so = so-far-first g.S.Source (map_in action) (keeps_rules action) c.args.self.now.pending c.args.world.now.records c.args.source.now c.args.self.now.lines.input c.requires.may
          (ready-first (map_in action) c.args.world.now.records c.args.self.now.pending c.requires.valid c.requires.live c.requires.apart) c.requires.small;
      action = refl;
    }

pub returns-then-not-branch-clause-missed : goal.returns-then-not-branch-clause-missed
returns-then-not-branch-clause-missed g c =
    let action = c.args.self.now.mover.action in
    let some : c.loop-self.self.pending ≢ [] = λ none. let never : IsTrue false = c.loop-self-test.ensures.1 none in cc in
    so-far-missed g.S.Source (map_in action) (keeps_rules action) c.args.self.now.pending c.args.world.now.records c.args.source.now c.loop-self.source c.args.self.now.lines.input c.loop-self.self.lines.input
    c.loop-self.world.records c.loop-self.self.pending c.loop-self.invariant.so c.expect_move.new.source some (rw c.loop-self.invariant.action at (rw c.if-not-branch.true at c.in_ok-expect_move.ensures.missed))

pub loop-self-preserved : goal.loop-self-preserved
loop-self-preserved g c =
    let action = c.args.self.now.mover.action in
    record {
      so = so-far-next g.S.Source (map_in action) (keeps_rules action) c.args.self.now.pending c.args.world.now.records c.args.source.now c.loop-self.source c.args.self.now.lines.input c.loop-self.self.lines.input
          c.loop-self.world.records c.loop-self.self.pending c.loop-self.invariant.so c.expect_move.new.source c.expect_move.new.self.lines.input c.expect_move.new.world.records c.expect_move.new.self.pending
          (rw c.loop-self.invariant.action at (rw c.if-not-branch.false at c.in_ok-expect_move.ensures.ok));
      action = c.in_ok-expect_move.ensures.action ∙ c.loop-self.invariant.action;
    }

pub returns-clause-ok : goal.returns-clause-ok
returns-clause-ok g c =
    let action = c.args.self.now.mover.action in
    so-far-done g.S.Source (map_in action) (keeps_rules action) c.args.self.now.pending c.args.world.now.records c.args.source.now c.loop-self.source c.args.self.now.lines.input c.loop-self.self.lines.input
    c.loop-self.world.records c.loop-self.self.pending c.loop-self.invariant.so (c.loop-self-test.ensures.0 refl)

pub returns-in_err-expect_move-clause-err : goal.returns-in_err-expect_move-clause-err
returns-in_err-expect_move-clause-err g c =
    let p = err_from_is_err_and c.from_residual.result c.from_residual.ensures.1 in
    rw (p.1 ∙ ap Err p.2)
    (fails-after g.S.Source c.args.source.now c.loop-self.source c.expect_move.new.source c.args.self.now.lines.input c.loop-self.self.lines.input c.in_err-expect_move.field-0.0
    c.loop-self.invariant.so.reads.on c.in_err-expect_move.ensures.err)

pub returns-then-not-branch-clause-looked : goal.returns-then-not-branch-clause-looked
returns-then-not-branch-clause-looked g c =
    let action = c.args.self.now.mover.action in
    so-far-looked g.S.Source (map_in action) (keeps_rules action) c.args.self.now.pending c.args.world.now.records c.args.source.now c.loop-self.source c.args.self.now.lines.input c.loop-self.self.lines.input
    c.loop-self.world.records c.loop-self.self.pending c.loop-self.invariant.so c.expect_move.new.source c.expect_move.new.self.lines.input (rw c.if-not-branch.true at c.in_ok-expect_move.ensures.looked)
