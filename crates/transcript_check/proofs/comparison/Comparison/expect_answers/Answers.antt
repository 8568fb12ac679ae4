use Rattle.std.proofs.Common.{◌∙◌}
use Rattle.arena_actions.specs.MapActions.{map_in}
use Rattle.arena_actions.proofs.OfItsMap.{keeps_rules}
use Rattle.transcript_check.proofs.Texts.{ok_true-weaker, ok_false-weaker}
use Rattle.transcript_check.proofs.Frames.{head-missed, moves-missed, replies-missed, answers-read, head-looked, moves-looked, replies-looked}
use Rattle.transcript_check.proofs.Turns.{ready-first}
use Rattle.transcript_check.proofs.MovesRead.{some-right}
use Rattle.transcript_check.proofs.comparison.Comparison.expect_answers.Goals as goal

pub returns-then-not-branch-clause-missed : goal.returns-then-not-branch-clause-missed
returns-then-not-branch-clause-missed g c =
    head-missed g.S.Source (map_in c.args.self.now.mover.action) c.args.frame c.args.received.now.lists c.args.world.now.records c.args.source.now c.expect_early.new.source c.args.self.now.lines.input
    (rw c.if-not-branch.true at c.in_ok-expect_early.ensures.missed)

pub returns-then-not-branch-2-clause-missed : goal.returns-then-not-branch-2-clause-missed
returns-then-not-branch-2-clause-missed g c =
    let moves = c.set.ensures.moves ∙ c.moves.ensures in
    moves-missed g.S.Source (map_in c.args.self.now.mover.action) c.args.frame c.args.received.now.lists c.args.world.now.records c.args.source.now c.expect_early.new.source c.args.self.now.lines.input c.expect_early.new.lines.input
    (rw c.if-not-branch.false at c.in_ok-expect_early.ensures.ok) c.expect_moves.new.source (rw moves at (rw c.if-not-branch-2.true at c.in_ok-expect_moves.ensures.missed))

pub returns-clause-ok : goal.returns-clause-ok
returns-clause-ok g c =
    let moves = c.set.ensures.moves ∙ c.moves.ensures in
    let runs = rw moves at (rw c.if-not-branch-2.false at c.in_ok-expect_moves.ensures.ok) in
    ok_true-weaker c.expect_replies.result _ _ c.expect_replies.ensures.ok
    (answers-read g.S.Source (map_in c.args.self.now.mover.action) c.args.frame c.args.received.now.lists c.args.world.now.records c.args.source.now c.expect_early.new.source c.args.self.now.lines.input c.expect_early.new.lines.input
    (rw c.if-not-branch.false at c.in_ok-expect_early.ensures.ok) c.expect_moves.new.source c.expect_moves.new.self.lines.input c.expect_moves.new.world.records runs
    c.expect_replies.new.source c.expect_replies.new.self.input)

pub returns-clause-missed : goal.returns-clause-missed
returns-clause-missed g c =
    let moves = c.set.ensures.moves ∙ c.moves.ensures in
    let runs = rw moves at (rw c.if-not-branch-2.false at c.in_ok-expect_moves.ensures.ok) in
    ok_false-weaker c.expect_replies.result _ _ c.expect_replies.ensures.missed
    (replies-missed g.S.Source (map_in c.args.self.now.mover.action) c.args.frame c.args.received.now.lists c.args.world.now.records c.args.source.now c.expect_early.new.source c.args.self.now.lines.input c.expect_early.new.lines.input
    (rw c.if-not-branch.false at c.in_ok-expect_early.ensures.ok) c.expect_moves.new.source c.expect_moves.new.self.lines.input c.expect_moves.new.world.records runs
    c.expect_replies.new.source)

pub returns-then-not-branch-clause-looked : goal.returns-then-not-branch-clause-looked
returns-then-not-branch-clause-looked g c =
    let action = c.args.self.now.mover.action in
    let lists = c.args.received.now.lists in
    let records = c.args.world.now.records in
    let some = some-right g.S.Source (map_in action) (keeps_rules action) lists.moves records (ready-first (map_in action) records lists.moves c.requires.valid c.requires.live c.requires.apart) in
    head-looked g.S.Source (map_in action) c.args.frame lists records some.journal some.right c.args.source.now c.expect_early.new.source c.args.self.now.lines.input c.expect_early.new.lines.input
    (rw c.if-not-branch.true at c.in_ok-expect_early.ensures.looked)

pub returns-then-not-branch-2-clause-looked : goal.returns-then-not-branch-2-clause-looked
returns-then-not-branch-2-clause-looked g c =
    let moves = c.set.ensures.moves ∙ c.moves.ensures in
    moves-looked g.S.Source (map_in c.args.self.now.mover.action) c.args.frame c.args.received.now.lists c.args.world.now.records c.args.source.now c.expect_early.new.source c.args.self.now.lines.input c.expect_early.new.lines.input
    (rw c.if-not-branch.false at c.in_ok-expect_early.ensures.ok) c.expect_moves.new.source c.expect_moves.new.self.lines.input (rw moves at (rw c.if-not-branch-2.true at c.in_ok-expect_moves.ensures.looked))

pub returns-clause-looked : goal.returns-clause-looked
returns-clause-looked g c =
    let moves = c.set.ensures.moves ∙ c.moves.ensures in
    let runs = rw moves at (rw c.if-not-branch-2.false at c.in_ok-expect_moves.ensures.ok) in
    ok_false-weaker c.expect_replies.result _ _ c.expect_replies.ensures.looked
    (replies-looked g.S.Source (map_in c.args.self.now.mover.action) c.args.frame c.args.received.now.lists c.args.world.now.records c.args.source.now c.expect_early.new.source c.args.self.now.lines.input c.expect_early.new.lines.input
    (rw c.if-not-branch.false at c.in_ok-expect_early.ensures.ok) c.expect_moves.new.source c.expect_moves.new.self.lines.input c.expect_moves.new.world.records runs
    c.expect_replies.new.source c.expect_replies.new.self.input)
