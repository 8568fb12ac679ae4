use Rattle.std.proofs.Common.{◌≡◌, [], ◌++◌, map, ap, ◌∙◌, append-nil}
use Rattle.out_text.specs.FrameLines.{no_line, joined_line}
use Rattle.transcript_check.specs.Pieces.{early_lines}
use Rattle.transcript_check.proofs.Texts.{ok_false-weaker}
use Rattle.transcript_check.proofs.ReadingOn.{misses-after, misses-front, looked-within, looked-after}
use Rattle.transcript_check.proofs.comparison.answers.expect_early.Goals as goal

pub returns-then-not-branch-clause-missed : goal.returns-then-not-branch-clause-missed
returns-then-not-branch-clause-missed g c =
    let lists = c.args.received.now.lists in
    misses-front g.S.Source c.args.source.now c.expect_each.new.source c.args.lines.now.input (map no_line lists.refused) (map joined_line lists.joined)
    (rw c.refused.ensures at (rw c.if-not-branch.true at c.in_ok-expect_each.ensures.missed))

pub returns-clause-missed : goal.returns-clause-missed
returns-clause-missed g c =
    let lists = c.args.received.now.lists in
    let refused = rw c.refused.ensures at (rw c.if-not-branch.false at c.in_ok-expect_each.ensures.ok) in
    ok_false-weaker c.expect_each-2.result _ _ (rw c.joined.ensures at c.expect_each-2.ensures.missed)
    (misses-after g.S.Source c.args.source.now c.expect_each.new.source c.expect_each-2.new.source c.args.lines.now.input c.expect_each.new.self.input (map no_line lists.refused) (map joined_line lists.joined) refused)

pub returns-then-not-branch-clause-looked : goal.returns-then-not-branch-clause-looked
returns-then-not-branch-clause-looked g c =
    let lists = c.args.received.now.lists in
    let later = map joined_line lists.joined in
    looked-within g.S.Source c.args.source.now c.expect_each.new.source c.args.lines.now.input c.expect_each.new.self.input (λ ls. ls ≡ map no_line lists.refused) (λ ls. ls ≡ early_lines lists)
    (λ ls is. record { after = later; holds = ap (λ xs. xs ++ later) is }) (rw c.refused.ensures at (rw c.if-not-branch.true at c.in_ok-expect_each.ensures.looked))

pub returns-clause-looked : goal.returns-clause-looked
returns-clause-looked g c =
    let lists = c.args.received.now.lists in
    let front = map no_line lists.refused in
    let refused = rw c.refused.ensures at (rw c.if-not-branch.false at c.in_ok-expect_each.ensures.ok) in
    ok_false-weaker c.expect_each-2.result _ _ (rw c.joined.ensures at c.expect_each-2.ensures.looked)
    (looked-after g.S.Source c.args.source.now c.expect_each.new.source c.expect_each-2.new.source c.args.lines.now.input c.expect_each.new.self.input c.expect_each-2.new.self.input (λ ls. ls ≡ map joined_line lists.joined)
    (λ ls. ls ≡ early_lines lists) front refused (λ ls is. record { after = []; holds = ap (λ xs. front ++ xs) (append-nil ls ∙ is) }))
