use Rattle.std.proofs.Common.{◌∷◌, [], ◌<◌, ◌≤◌, ◌*◌, IfOk, sym, subst}
use Rattle.std.specs.Bool.{OnTrue, OnFalse}
use Rattle.arena_map.specs.declared.limits.TheConstants.{MOST_FRAMES}
use Rattle.client_ports.specs.declared.received.TheConstants.{MOST_FRAME_MOVES}
use Rattle.out_text.specs.FrameLines.{lines_with}
use Rattle.out_text.specs.OutLines.{FrameLine, printed_line}
use Rattle.out_text.specs.Transcripts.{BeginsWith}
use Rattle.transcript_check.specs.Reading.{ReadsLines, Misses}
use Rattle.transcript_check.specs.Checkers.{CheckerView, IsChecker}
use Rattle.transcript_check.specs.Pieces.{TakesFrame, MissesFrame, BeginsFrame, answers_with}
use Rattle.transcript_check.proofs.Texts.{ok_true-weaker, ok_false-weaker}
use Rattle.transcript_check.proofs.FrameTaken.{lines-follow, first-missed, first-looked, frame-missed, frame-looked, frame-taken}
use Rattle.transcript_check.proofs.checker.Checker.expect_frame.Goals as goal

pub expect_answers-requires-clause-is : goal.expect_answers-requires-clause-is
expect_answers-requires-clause-is g c = subst (λ (u : CheckerView). IsChecker u.map u.state) (sym c.in_ok-expect.ensures.server) c.requires.is

pub expect_answers-requires-clause-frames : goal.expect_answers-requires-clause-frames
expect_answers-requires-clause-frames g c = subst (λ (u : CheckerView). u.frames < MOST_FRAMES) (sym c.in_ok-expect.ensures.server) c.requires.frames

pub expect_answers-requires-clause-moves : goal.expect_answers-requires-clause-moves
expect_answers-requires-clause-moves g c = subst (λ (u : CheckerView). u.moves ≤ MOST_FRAME_MOVES * u.frames) (sym c.in_ok-expect.ensures.server) c.requires.moves

pub returns-then-not-branch-clause-missed : goal.returns-then-not-branch-clause-missed
returns-then-not-branch-clause-missed g c =
    let was = c.args.self.now in
    first-missed g.S.Source lines_with answers_with c.args.source.now c.expect.new.source was c.args.arrivals.now (FrameLine was.frames) (lines-follow was c.args.arrivals.now)
    (subst (λ n. Misses g.S.Source c.args.source.now c.expect.new.source was.input (λ bytes. BeginsWith bytes (printed_line (FrameLine n)) → ⊥)) c.frames.ensures (rw c.if-not-branch.true at c.in_ok-expect.ensures.missed))

pub returns-then-not-branch-clause-looked : goal.returns-then-not-branch-clause-looked
returns-then-not-branch-clause-looked g c =
    first-looked g.S.Source lines_with c.args.source.now c.expect.new.source c.args.self.now c.expect.new.self c.args.arrivals.now (rw c.if-not-branch.true at c.in_ok-expect.ensures.looked)

pub returns-clause-ok : goal.returns-clause-ok
returns-clause-ok g c =
    let was = c.args.self.now in
    let arrivals = c.args.arrivals.now in
    let first = subst (λ n. ReadsLines g.S.Source c.args.source.now c.expect.new.source was.input c.expect.new.self.input (FrameLine n ∷ [])) c.frames.ensures (rw c.if-not-branch.false at c.in_ok-expect.ensures.ok) in
    ok_true-weaker c.expect_answers.result _ _
    (subst (λ (u : CheckerView). IfOk c.expect_answers.result (λ is. OnTrue is (TakesFrame g.S.Source answers_with c.expect.new.source c.expect_answers.new.source u c.expect_answers.new.self arrivals)))
    c.in_ok-expect.ensures.server c.expect_answers.ensures.ok)
    (frame-taken g.S.Source lines_with answers_with c.args.source.now c.expect.new.source was c.expect.new.self.input arrivals (FrameLine was.frames ∷ []) (lines-follow was arrivals) first
    c.expect_answers.new.source c.expect_answers.new.self)

pub returns-clause-missed : goal.returns-clause-missed
returns-clause-missed g c =
    let was = c.args.self.now in
    let arrivals = c.args.arrivals.now in
    let first = subst (λ n. ReadsLines g.S.Source c.args.source.now c.expect.new.source was.input c.expect.new.self.input (FrameLine n ∷ [])) c.frames.ensures (rw c.if-not-branch.false at c.in_ok-expect.ensures.ok) in
    ok_false-weaker c.expect_answers.result _ _
    (subst (λ (u : CheckerView). IfOk c.expect_answers.result (λ is. OnFalse is (MissesFrame g.S.Source answers_with c.expect.new.source c.expect_answers.new.source u arrivals)))
    c.in_ok-expect.ensures.server c.expect_answers.ensures.missed)
    (frame-missed g.S.Source lines_with answers_with c.args.source.now c.expect.new.source was c.expect.new.self.input arrivals (FrameLine was.frames ∷ []) (lines-follow was arrivals) first
    c.expect_answers.new.source)

pub returns-clause-looked : goal.returns-clause-looked
returns-clause-looked g c =
    let was = c.args.self.now in
    let arrivals = c.args.arrivals.now in
    let first = subst (λ n. ReadsLines g.S.Source c.args.source.now c.expect.new.source was.input c.expect.new.self.input (FrameLine n ∷ [])) c.frames.ensures (rw c.if-not-branch.false at c.in_ok-expect.ensures.ok) in
    ok_false-weaker c.expect_answers.result _ _
    (subst (λ (u : CheckerView). IfOk c.expect_answers.result (λ is. OnFalse is (BeginsFrame g.S.Source answers_with c.expect.new.source c.expect_answers.new.source u c.expect_answers.new.self arrivals)))
    c.in_ok-expect.ensures.server c.expect_answers.ensures.looked)
    (frame-looked g.S.Source lines_with answers_with c.args.source.now c.expect.new.source was c.expect.new.self.input arrivals (FrameLine was.frames ∷ []) (lines-follow was arrivals) first
    c.expect_answers.new.source c.expect_answers.new.self)
