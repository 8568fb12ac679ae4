use Rattle.std.proofs.Common.{◌∷◌, [], map, refl, ap, ◌∙◌}
use Rattle.transcript_check.proofs.Texts.{left_cons}
use Rattle.transcript_check.proofs.ReadingOn.{some-first, some-next, some-missed, some-looked, misses-one}
use Rattle.transcript_check.proofs.lines.Lines.expect_each.Goals as goal

pub loop-item-init : goal.loop-item-init
loop-item-init g c = some-first g.S.Source c.args.source.now c.args.self.now.input (map g.T.Printed.line c.args.items.now) _ c.requires.may refl

pub returns-then-not-branch-clause-missed : goal.returns-then-not-branch-clause-missed
returns-then-not-branch-clause-missed g c =
    let here = left_cons g.T.Printed.line c.args.items.now c.loop-item.item-index _ c.loop-item-test.true in
    let line = c.line.ensures.is ∙ ap g.T.Printed.line c.item-item.is in
    let missed = rw line at (rw c.if-not-branch.true at c.in_ok-expect.ensures.missed) in
    some-missed g.S.Source c.args.source.now c.loop-item.source c.expect.new.source c.args.self.now.input c.loop-item.self.input _ (_ ∷ []) _ (rw here at c.loop-item.invariant)
    (misses-one g.S.Source c.loop-item.source c.expect.new.source c.loop-item.self.input _ missed)

pub loop-item-preserved : goal.loop-item-preserved
loop-item-preserved g c =
    let here = left_cons g.T.Printed.line c.args.items.now c.loop-item.item-index _ c.loop-item-test.true in
    let line = c.line.ensures.is ∙ ap g.T.Printed.line c.item-item.is in
    let reads = rw line at (rw c.if-not-branch.false at c.in_ok-expect.ensures.ok) in
    some-next g.S.Source c.args.source.now c.loop-item.source c.expect.new.source c.args.self.now.input c.loop-item.self.input c.expect.new.self.input _ (_ ∷ []) _ (rw here at c.loop-item.invariant) reads

pub returns-then-not-branch-clause-looked : goal.returns-then-not-branch-clause-looked
returns-then-not-branch-clause-looked g c =
    some-looked g.S.Source c.args.source.now c.loop-item.source c.expect.new.source c.args.self.now.input c.loop-item.self.input c.expect.new.self.input _ _ c.loop-item.invariant
    (rw c.if-not-branch.true at c.in_ok-expect.ensures.looked)
