use Rattle.std.proofs.Common.{List, map, take, drop, suc, Vec, Global, sym, ap, ◌∙◌, subst, arith}
use Rattle.std.proofs.lemmas.List.{length-map}
use Rattle.packet_read.specs.declared.arrival.Arrival.{Arrival}
use Rattle.transcript_check.specs.Checkers.{CheckerView}
use Rattle.transcript_check.specs.Verdicts.{IsShort}
use Rattle.transcript_check.proofs.NextFrames.{take-next, all-next, take-all, next-short}
use Rattle.transcript_check.proofs.FramesRead.{FramesSoFar, so-far-none, so-far-pushed, frame-wrong, end-wrong, all-right, wrong-looked, endless-looked, right-looked}
use Rattle.transcript_check.proofs.checking.compare.Goals as goal

pub loop-arrivals-init : goal.loop-arrivals-init
loop-arrivals-init g c = so-far-none g.S.Source c.args.checker.now.map c.args.source.now c.args.checker.now c.requires.may c.requires.new c.requires.first c.requires.is

pub expect_frame-requires-clause-few : goal.expect_frame-requires-clause-few
expect_frame-requires-clause-few g c =
    let items : Vec Arrival Global → List Arrival = λ v. v.items in
    let is = c.as_slice.ensures.value ∙ ap items c.arrivals-item.is in
    subst IsShort (sym is) (next-short items c.args.frames.now c.loop-arrivals.arrivals-index _ c.loop-arrivals-test.true c.requires.short)

pub returns-then-not-branch-clause-ok : goal.returns-then-not-branch-clause-ok
returns-then-not-branch-clause-ok g c =
    let items : Vec Arrival Global → List Arrival = λ v. v.items in
    let is = c.as_slice.ensures.value ∙ ap items c.arrivals-item.is in
    let n = c.loop-arrivals.arrivals-index in
    let frames = map items c.args.frames.now in
    frame-wrong g.S.Source c.args.checker.now.map frames c.args.before (let few = c.requires.few in let long = length-map c.args.frames.now items in omega (arith, few, long))
    (take n frames) (drop (suc n) frames) c.as_slice.result.now (all-next items c.args.frames.now n _ c.as_slice.result.now c.loop-arrivals-test.true is)
    c.args.source.now c.loop-arrivals.source c.expect_frame.new.source c.args.checker.now.input c.loop-arrivals.checker c.loop-arrivals.invariant _ c.lines.ensures
    (rw c.if-not-branch.true at c.in_ok-expect_frame.ensures.missed)

pub loop-arrivals-preserved : goal.loop-arrivals-preserved
loop-arrivals-preserved g c =
    let items : Vec Arrival Global → List Arrival = λ v. v.items in
    let is = c.as_slice.ensures.value ∙ ap items c.arrivals-item.is in
    let n = c.loop-arrivals.arrivals-index in
    let frames = map items c.args.frames.now in
    subst (λ (fs : List (List Arrival)). FramesSoFar g.S.Source c.args.checker.now.map fs c.args.source.now c.expect_frame.new.source c.args.checker.now.input c.expect_frame.new.self)
    (take-next items c.args.frames.now n _ c.as_slice.result.now c.loop-arrivals-test.true is)
    (so-far-pushed g.S.Source c.args.checker.now.map (take n frames) c.args.source.now c.loop-arrivals.source c.args.checker.now.input c.loop-arrivals.checker c.loop-arrivals.invariant c.as_slice.result.now
    c.expect_frame.new.source c.expect_frame.new.self (rw c.if-not-branch.false at c.in_ok-expect_frame.ensures.ok))

pub returns-then-not-branch-2-clause-ok : goal.returns-then-not-branch-2-clause-ok
returns-then-not-branch-2-clause-ok g c =
    let items : Vec Arrival Global → List Arrival = λ v. v.items in
    let n = c.loop-arrivals.arrivals-index in
    let frames = map items c.args.frames.now in
    end-wrong g.S.Source c.args.checker.now.map frames c.args.before (let few = c.requires.few in let long = length-map c.args.frames.now items in omega (arith, few, long))
    (take n frames) (take-all items c.args.frames.now n (let past = c.loop-arrivals-test.false in omega (arith, past)))
    c.args.source.now c.loop-arrivals.source c.expect_end.new.source c.args.checker.now.input c.loop-arrivals.checker c.loop-arrivals.invariant _ c.lines-2.ensures
    (rw c.if-not-branch-2.true at c.in_ok-expect_end.ensures.missed)

pub returns-clause-ok : goal.returns-clause-ok
returns-clause-ok g c =
    let items : Vec Arrival Global → List Arrival = λ v. v.items in
    let n = c.loop-arrivals.arrivals-index in
    let frames = map items c.args.frames.now in
    all-right g.S.Source c.args.checker.now.map frames c.args.before (let few = c.requires.few in let long = length-map c.args.frames.now items in omega (arith, few, long))
    (take n frames) (take-all items c.args.frames.now n (let past = c.loop-arrivals-test.false in omega (arith, past)))
    c.args.source.now c.loop-arrivals.source c.expect_end.new.source c.args.checker.now.input c.expect_end.new.self.input c.loop-arrivals.checker c.loop-arrivals.invariant _ _
    (c.frames.ensures ∙ ap (λ (u : CheckerView). u.frames) c.in_ok-expect_end.ensures.server) (c.moves.ensures ∙ ap (λ (u : CheckerView). u.moves) c.in_ok-expect_end.ensures.server) (rw c.if-not-branch-2.false at c.in_ok-expect_end.ensures.ok)

pub returns-then-not-branch-clause-looked : goal.returns-then-not-branch-clause-looked
returns-then-not-branch-clause-looked g c =
    let items : Vec Arrival Global → List Arrival = λ v. v.items in
    let is = c.as_slice.ensures.value ∙ ap items c.arrivals-item.is in
    let n = c.loop-arrivals.arrivals-index in
    let frames = map items c.args.frames.now in
    wrong-looked g.S.Source c.args.checker.now.map frames (take n frames) (drop (suc n) frames) c.as_slice.result.now
    (all-next items c.args.frames.now n _ c.as_slice.result.now c.loop-arrivals-test.true is) c.args.source.now c.loop-arrivals.source c.expect_frame.new.source c.args.checker.now.input c.loop-arrivals.checker
    c.expect_frame.new.self c.loop-arrivals.invariant (rw c.if-not-branch.true at c.in_ok-expect_frame.ensures.looked)

pub returns-then-not-branch-2-clause-looked : goal.returns-then-not-branch-2-clause-looked
returns-then-not-branch-2-clause-looked g c =
    let items : Vec Arrival Global → List Arrival = λ v. v.items in
    let n = c.loop-arrivals.arrivals-index in
    let frames = map items c.args.frames.now in
    endless-looked g.S.Source c.args.checker.now.map frames (take n frames) (take-all items c.args.frames.now n (let past = c.loop-arrivals-test.false in omega (arith, past))) c.args.source.now
    c.loop-arrivals.source c.expect_end.new.source c.args.checker.now.input c.expect_end.new.self.input c.loop-arrivals.checker c.loop-arrivals.invariant
    (rw c.if-not-branch-2.true at c.in_ok-expect_end.ensures.looked)

pub returns-clause-looked : goal.returns-clause-looked
returns-clause-looked g c =
    let items : Vec Arrival Global → List Arrival = λ v. v.items in
    let n = c.loop-arrivals.arrivals-index in
    let frames = map items c.args.frames.now in
    right-looked g.S.Source c.args.checker.now.map frames (take n frames) (take-all items c.args.frames.now n (let past = c.loop-arrivals-test.false in omega (arith, past))) c.args.source.now
    c.loop-arrivals.source c.expect_end.new.source c.args.checker.now.input c.expect_end.new.self.input c.loop-arrivals.checker c.loop-arrivals.invariant
    (rw c.if-not-branch-2.false at c.in_ok-expect_end.ensures.ok) (rw c.if-not-branch-2.false at c.in_ok-expect_end.ensures.held)
