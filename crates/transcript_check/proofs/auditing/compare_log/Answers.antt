use Rattle.std.proofs.Common.{ap, ◌∙◌, subst}
use Rattle.transcript_check.specs.Audits.{OpensFrame}
use Rattle.transcript_check.specs.Checkers.{CheckerView}
use Rattle.transcript_check.specs.Packets.{TakesFed, MissesFed, BeginsFed}
use Rattle.transcript_check.proofs.ReadingOn.{looked-line}
use Rattle.transcript_check.proofs.FedRead.{fed-none, line-missed, line-looked, other-missed, end-right, end-looked, frame-missed, frame-looked, frame-read}
use Rattle.transcript_check.proofs.auditing.compare_log.Goals as goal

pub pieces-init : goal.pieces-init
pieces-init g c = fed-none g.S.Source c.args.checker.now.map c.args.source.now c.args.checker.now c.requires.may c.requires.new c.requires.first c.requires.is

pub returns-then-not-branch-clause-ok : goal.returns-then-not-branch-clause-ok
returns-then-not-branch-clause-ok g c =
    line-missed g.S.Source c.args.checker.now.map c.args.source.now c.pieces.source c.args.checker.now.input c.pieces.checker c.pieces.invariant c.take_line.new.source
    (rw c.if-not-branch.true at c.in_ok-take_line.ensures.none) c.args.before _ c.lines.ensures

pub returns-then-not-branch-clause-looked : goal.returns-then-not-branch-clause-looked
returns-then-not-branch-clause-looked g c =
    line-looked g.S.Source c.args.checker.now.map c.args.source.now c.pieces.source c.args.checker.now.input c.pieces.checker c.pieces.invariant c.take_line.new.source c.take_line.new.self.input
    (rw c.if-not-branch.true at c.in_ok-take_line.ensures.looked)

pub returns-then-is_end-clause-ok : goal.returns-then-is_end-clause-ok
returns-then-is_end-clause-ok g c =
    end-right g.S.Source c.args.checker.now.map c.args.source.now c.pieces.source c.args.checker.now.input c.pieces.checker c.pieces.invariant c.take_line.new.source c.take_line.new.self
    c.in_ok-take_line.ensures.server (rw c.if-not-branch.false at c.in_ok-take_line.ensures.line) (rw c.if-is_end.true at c.is_end.ensures.same) c.args.before _ _
    (c.frames.ensures ∙ ap (λ (u : CheckerView). u.frames) c.is_end.ensures.server) (c.moves.ensures ∙ ap (λ (u : CheckerView). u.moves) c.is_end.ensures.server)

pub returns-then-is_end-clause-looked : goal.returns-then-is_end-clause-looked
returns-then-is_end-clause-looked g c =
    rw c.is_end.ensures.server
    (end-looked g.S.Source c.args.checker.now.map c.args.source.now c.pieces.source c.args.checker.now.input c.pieces.checker c.pieces.invariant c.take_line.new.source c.take_line.new.self
    c.in_ok-take_line.ensures.server (rw c.if-not-branch.false at c.in_ok-take_line.ensures.line) (rw c.if-is_end.true at c.is_end.ensures.same))

pub returns-then-not-is_frame-clause-ok : goal.returns-then-not-is_frame-clause-ok
returns-then-not-is_frame-clause-ok g c =
    other-missed g.S.Source c.args.checker.now.map c.args.source.now c.pieces.source c.args.checker.now.input c.pieces.checker c.pieces.invariant c.take_line.new.source c.take_line.new.self
    c.in_ok-take_line.ensures.server (rw c.if-not-branch.false at c.in_ok-take_line.ensures.line) (rw c.if-is_end.false at c.is_end.ensures.other)
    (subst (λ (u : CheckerView). OpensFrame u u.input.given → ⊥) c.is_end.ensures.server (rw c.if-not-is_frame.true at c.is_frame.ensures.no)) c.args.before _ c.lines.ensures

pub returns-then-not-is_frame-clause-looked : goal.returns-then-not-is_frame-clause-looked
returns-then-not-is_frame-clause-looked g c =
    rw (c.is_frame.ensures.server ∙ c.is_end.ensures.server)
    (line-looked g.S.Source c.args.checker.now.map c.args.source.now c.pieces.source c.args.checker.now.input c.pieces.checker c.pieces.invariant c.take_line.new.source c.take_line.new.self.input
    (looked-line g.S.Source c.pieces.source c.take_line.new.source c.pieces.checker.input c.take_line.new.self.input (rw c.if-not-branch.false at c.in_ok-take_line.ensures.line)))

pub returns-then-not-branch-2-clause-ok : goal.returns-then-not-branch-2-clause-ok
returns-then-not-branch-2-clause-ok g c =
    frame-missed g.S.Source c.args.checker.now.map c.args.source.now c.pieces.source c.args.checker.now.input c.pieces.checker c.pieces.invariant c.take_line.new.source c.take_line.new.self
    c.in_ok-take_line.ensures.server (rw c.if-not-branch.false at c.in_ok-take_line.ensures.line)
    (subst (λ (u : CheckerView). OpensFrame u u.input.given) c.is_end.ensures.server (rw c.if-not-is_frame.false at c.is_frame.ensures.yes)) c.expect_fed.new.source
    (subst (λ (u : CheckerView). MissesFed g.S.Source c.take_line.new.source c.expect_fed.new.source u) (c.is_frame.ensures.server ∙ c.is_end.ensures.server)
    (rw c.if-not-branch-2.true at c.in_ok-expect_fed.ensures.missed)) c.args.before _ c.lines.ensures

pub returns-then-not-branch-2-clause-looked : goal.returns-then-not-branch-2-clause-looked
returns-then-not-branch-2-clause-looked g c =
    frame-looked g.S.Source c.args.checker.now.map c.args.source.now c.pieces.source c.args.checker.now.input c.pieces.checker c.pieces.invariant c.take_line.new.source c.take_line.new.self
    c.in_ok-take_line.ensures.server (rw c.if-not-branch.false at c.in_ok-take_line.ensures.line)
    (subst (λ (u : CheckerView). OpensFrame u u.input.given) c.is_end.ensures.server (rw c.if-not-is_frame.false at c.is_frame.ensures.yes)) c.expect_fed.new.source c.expect_fed.new.self
    (subst (λ (u : CheckerView). BeginsFed g.S.Source c.take_line.new.source c.expect_fed.new.source u c.expect_fed.new.self) (c.is_frame.ensures.server ∙ c.is_end.ensures.server)
    (rw c.if-not-branch-2.true at c.in_ok-expect_fed.ensures.looked))

pub pieces-preserved : goal.pieces-preserved
pieces-preserved g c =
    frame-read g.S.Source c.args.checker.now.map c.args.source.now c.pieces.source c.args.checker.now.input c.pieces.checker c.pieces.invariant c.take_line.new.source c.take_line.new.self
    c.in_ok-take_line.ensures.server (rw c.if-not-branch.false at c.in_ok-take_line.ensures.line)
    (subst (λ (u : CheckerView). OpensFrame u u.input.given) c.is_end.ensures.server (rw c.if-not-is_frame.false at c.is_frame.ensures.yes)) c.expect_fed.new.source c.expect_fed.new.self
    (subst (λ (u : CheckerView). TakesFed g.S.Source c.take_line.new.source c.expect_fed.new.source u c.expect_fed.new.self) (c.is_frame.ensures.server ∙ c.is_end.ensures.server)
    (rw c.if-not-branch-2.false at c.in_ok-expect_fed.ensures.ok))
