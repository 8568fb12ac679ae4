use Rattle.std.proofs.Common.{sym, subst}
use Rattle.arena_actions.specs.MapActions.{map_in}
use Rattle.transcript_check.specs.Reading.{ReadsOneAtMost}
use Rattle.transcript_check.specs.Moves.{TakesMove}
use Rattle.transcript_check.proofs.Texts.{on_true-weaker, on_false-weaker, on_false-all}
use Rattle.transcript_check.proofs.ReadingOn.{read-wanted, looked-line}
use Rattle.transcript_check.proofs.MovesRead.{no-move, no-line}
use Rattle.transcript_check.proofs.comparison.Comparison.expect_move.Goals as goal

pub returns-then-not-branch-clause-missed : goal.returns-then-not-branch-clause-missed
returns-then-not-branch-clause-missed g c =
    no-line g.S.Source (map_in c.args.self.now.mover.action) c.args.source.now c.take.new.source c.args.self.now.lines.input c.args.world.now.records c.args.self.now.pending (rw c.if-not-branch.true at c.in_ok-take.ensures.none)

pub returns-clause-ok : goal.returns-clause-ok
returns-clause-ok g c =
    let read = rw c.if-not-branch.false at c.in_ok-take.ensures.line in
    on_true-weaker c.is_next_move.result _ _ c.is_next_move.ensures.ok
    (λ is. subst (λ i. TakesMove g.S.Source (map_in c.args.self.now.mover.action) c.args.source.now c.take.new.source c.args.self.now.lines.input i c.args.world.now.records c.is_next_move.new.world.records c.args.self.now.pending
    c.is_next_move.new.self.pending) (sym c.is_next_move.ensures.input)
    (record { c = is.c; next = is.next; reads = read-wanted g.S.Source c.args.source.now c.take.new.source c.args.self.now.lines.input c.take.new.self _ read is.line_is; records_are = is.records_are }))

pub returns-clause-missed : goal.returns-clause-missed
returns-clause-missed g c =
    on_false-weaker c.is_next_move.result _ _ c.is_next_move.ensures.missed
    (no-move g.S.Source (map_in c.args.self.now.mover.action) c.args.source.now c.take.new.source c.args.self.now.lines.input c.take.new.self c.args.world.now.records c.args.self.now.pending
    (rw c.if-not-branch.false at c.in_ok-take.ensures.line))

pub returns-clause-looked : goal.returns-clause-looked
returns-clause-looked g c =
    let read = rw c.if-not-branch.false at c.in_ok-take.ensures.line in
    on_false-all c.is_next_move.result _
    (subst (ReadsOneAtMost g.S.Source c.args.source.now c.take.new.source c.args.self.now.lines.input) (sym c.is_next_move.ensures.input)
    (looked-line g.S.Source c.args.source.now c.take.new.source c.args.self.now.lines.input c.take.new.self read))
