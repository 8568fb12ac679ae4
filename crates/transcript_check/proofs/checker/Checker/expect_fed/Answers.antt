use Rattle.std.proofs.Common.{List, ◌<◌, ◌≤◌, ◌*◌, IfOk, sym, subst}
use Rattle.std.specs.Bool.{OnTrue, OnFalse}
use Rattle.arena_map.specs.declared.limits.TheConstants.{MOST_FRAMES}
use Rattle.client_ports.specs.declared.received.TheConstants.{MOST_FRAME_MOVES}
use Rattle.packet_read.specs.declared.arrival.Arrival.{Arrival}
use Rattle.transcript_check.specs.Checkers.{CheckerView, with_input, IsChecker}
use Rattle.transcript_check.specs.Pieces.{TakesFrame, MissesFrame, BeginsFrame, answers_with}
use Rattle.transcript_check.proofs.Texts.{ok_true-weaker, ok_false-weaker}
use Rattle.transcript_check.proofs.FedFrames.{packets-missed, packets-looked, answers-missed, answers-looked, answers-taken}
use Rattle.transcript_check.proofs.checker.Checker.expect_fed.Goals as goal

pub expect_answers-requires-clause-is : goal.expect_answers-requires-clause-is
expect_answers-requires-clause-is g c = subst (λ (u : CheckerView). IsChecker u.map u.state) (sym c.in_ok-read_packets.ensures.server) c.requires.is

pub expect_answers-requires-clause-frames : goal.expect_answers-requires-clause-frames
expect_answers-requires-clause-frames g c = subst (λ (u : CheckerView). u.frames < MOST_FRAMES) (sym c.in_ok-read_packets.ensures.server) c.requires.frames

pub expect_answers-requires-clause-moves : goal.expect_answers-requires-clause-moves
expect_answers-requires-clause-moves g c = subst (λ (u : CheckerView). u.moves ≤ MOST_FRAME_MOVES * u.frames) (sym c.in_ok-read_packets.ensures.server) c.requires.moves

pub returns-then-not-branch-clause-missed : goal.returns-then-not-branch-clause-missed
returns-then-not-branch-clause-missed g c =
    packets-missed g.S.Source c.args.source.now c.read_packets.new.source c.args.self.now c.requires.is (rw c.if-not-branch.true at c.in_ok-read_packets.ensures.missed)

pub returns-then-not-branch-clause-looked : goal.returns-then-not-branch-clause-looked
returns-then-not-branch-clause-looked g c =
    packets-looked g.S.Source c.args.source.now c.read_packets.new.source c.args.self.now c.requires.is c.read_packets.new.self (rw c.if-not-branch.true at c.in_ok-read_packets.ensures.looked)

pub returns-clause-ok : goal.returns-clause-ok
returns-clause-ok g c =
    let was = c.args.self.now in
    let mid = c.read_packets.new.source in
    let new = c.expect_answers.new.source in
    let e = c.read_packets.new.self.input in
    let there = subst (λ (u : CheckerView). IfOk c.expect_answers.result (λ is. OnTrue is (TakesFrame g.S.Source answers_with mid new u c.expect_answers.new.self c.as_slice.result.now)))
    c.in_ok-read_packets.ensures.server c.expect_answers.ensures.ok in
    ok_true-weaker c.expect_answers.result _ _
    (subst (λ (xs : List Arrival). IfOk c.expect_answers.result (λ is. OnTrue is (TakesFrame g.S.Source answers_with mid new (with_input was e) c.expect_answers.new.self xs))) c.as_slice.ensures there)
    (answers-taken g.S.Source c.args.source.now mid was c.requires.is e c.read_packets.new.packets (rw c.if-not-branch.false at c.in_ok-read_packets.ensures.ok) new c.expect_answers.new.self)

pub returns-clause-missed : goal.returns-clause-missed
returns-clause-missed g c =
    let was = c.args.self.now in
    let mid = c.read_packets.new.source in
    let new = c.expect_answers.new.source in
    let e = c.read_packets.new.self.input in
    let there = subst (λ (u : CheckerView). IfOk c.expect_answers.result (λ is. OnFalse is (MissesFrame g.S.Source answers_with mid new u c.as_slice.result.now)))
    c.in_ok-read_packets.ensures.server c.expect_answers.ensures.missed in
    ok_false-weaker c.expect_answers.result _ _
    (subst (λ (xs : List Arrival). IfOk c.expect_answers.result (λ is. OnFalse is (MissesFrame g.S.Source answers_with mid new (with_input was e) xs))) c.as_slice.ensures there)
    (answers-missed g.S.Source c.args.source.now mid was c.requires.is e c.read_packets.new.packets (rw c.if-not-branch.false at c.in_ok-read_packets.ensures.ok) new)

pub returns-clause-looked : goal.returns-clause-looked
returns-clause-looked g c =
    let was = c.args.self.now in
    let mid = c.read_packets.new.source in
    let new = c.expect_answers.new.source in
    let e = c.read_packets.new.self.input in
    let there = subst (λ (u : CheckerView). IfOk c.expect_answers.result (λ is. OnFalse is (BeginsFrame g.S.Source answers_with mid new u c.expect_answers.new.self c.as_slice.result.now)))
    c.in_ok-read_packets.ensures.server c.expect_answers.ensures.looked in
    ok_false-weaker c.expect_answers.result _ _
    (subst (λ (xs : List Arrival). IfOk c.expect_answers.result (λ is. OnFalse is (BeginsFrame g.S.Source answers_with mid new (with_input was e) c.expect_answers.new.self xs))) c.as_slice.ensures there)
    (answers-looked g.S.Source c.args.source.now mid was c.requires.is e c.read_packets.new.packets (rw c.if-not-branch.false at c.in_ok-read_packets.ensures.ok) new c.expect_answers.new.self)
