use Rattle.std.proofs.Common.{length, sym, ap, ◌∙◌, arith}
use Rattle.transcript_check.proofs.Texts.{on_true-weaker, on_false-weaker, on_false-all}
use Rattle.transcript_check.proofs.ReadingOn.{read-wanted, misses-none, misses-other, looked-line}
use Rattle.transcript_check.proofs.input.Input.expect.Goals as goal

pub returns-then-not-branch-clause-missed : goal.returns-then-not-branch-clause-missed
returns-then-not-branch-clause-missed g c = λ line is.
    misses-none g.S.Source c.args.source.now c.take.new.source c.args.self.now line (rw c.if-not-branch.true at c.in_ok-take.ensures.none)
    (let same = ap length is in omega (arith, c.requires.short, same))

pub returns-clause-ok : goal.returns-clause-ok
returns-clause-ok g c = λ line is.
    let read = rw c.if-not-branch.false at c.in_ok-take.ensures.line in
    on_true-weaker c.is_line.result _ _ c.is_line.ensures.same
    (λ same. read-wanted g.S.Source c.args.source.now c.take.new.source c.args.self.now c.take.new.self line read (same ∙ is))

pub returns-clause-missed : goal.returns-clause-missed
returns-clause-missed g c = λ line is.
    let read = rw c.if-not-branch.false at c.in_ok-take.ensures.line in
    on_false-weaker c.is_line.result _ _ c.is_line.ensures.other
    (λ other. misses-other g.S.Source c.args.source.now c.take.new.source c.args.self.now c.take.new.self line read (λ same. other (same ∙ sym is)))

pub returns-clause-looked : goal.returns-clause-looked
returns-clause-looked g c =
    on_false-all c.is_line.result _ (looked-line g.S.Source c.args.source.now c.take.new.source c.args.self.now c.take.new.self (rw c.if-not-branch.false at c.in_ok-take.ensures.line))
