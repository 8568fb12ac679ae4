use Rattle.std.proofs.Common.{◌≡◌, List, refl, sym, subst, arith}
use Rattle.world_tree.specs.Live.{live_in}
use Rattle.out_text.specs.FrameLines.{to_line}
use Rattle.out_text.specs.OutLines.{OutLine, text_of}
use Rattle.out_text.specs.Transcripts.{BeginsWith}
use Rattle.transcript_check.specs.Reading.{ReadsLines, ReadsBeginning, Misses}
use Rattle.transcript_check.proofs.Replies.{replies-next, replies-none, replies-all}
use Rattle.transcript_check.proofs.ReadingOn.{some-first, some-next, some-missed, some-looked, some-all}
use Rattle.transcript_check.proofs.lines.Lines.expect_replies.Goals as goal

pub loop-slot-init : goal.loop-slot-init
loop-slot-init g c = record {
  some = some-first g.S.Source c.args.source.now c.args.self.now.input _ _ c.requires.may refl;
  linked = λ past. absurd (omega (arith, past));
}

pub returns-then-not-branch-clause-missed : goal.returns-then-not-branch-clause-missed
returns-then-not-branch-clause-missed g c =
    let records = c.args.world.now.records in
    let f = to_line c.args.frame (live_in records) in
    let here = replies-next f records c.loop-slot.slot c.loop-slot-test.true in
    let missed = rw c.if-not-branch.true at c.in_ok-expect_reply.ensures.missed in
    subst (λ (ls : List OutLine). Misses g.S.Source c.args.source.now c.expect_reply.new.source c.args.self.now.input (λ bytes. BeginsWith bytes (text_of ls) → ⊥))
    (sym (replies-all f records c.in_ok-expect_reply.ensures.linked.entries))
    (some-missed g.S.Source c.args.source.now c.loop-slot.source c.expect_reply.new.source c.args.self.now.input c.loop-slot.self.input _ _ _ (rw here at c.loop-slot.invariant.some) missed)

pub loop-slot-preserved : goal.loop-slot-preserved
loop-slot-preserved g c =
    let records = c.args.world.now.records in
    let f = to_line c.args.frame (live_in records) in
    let here = replies-next f records c.loop-slot.slot c.loop-slot-test.true in
    let reads = rw c.if-not-branch.false at c.in_ok-expect_reply.ensures.ok in
    record {
      some = some-next g.S.Source c.args.source.now c.loop-slot.source c.expect_reply.new.source c.args.self.now.input c.loop-slot.self.input c.expect_reply.new.self.input _ _ _ (rw here at c.loop-slot.invariant.some) reads;
      linked = λ _. c.in_ok-expect_reply.ensures.linked;
    }

pub returns-clause-ok : goal.returns-clause-ok
returns-clause-ok g c =
    let records = c.args.world.now.records in
    let f = to_line c.args.frame (live_in records) in
    let all : c.loop-slot.slot ≡ 64 = omega arith in
    let linked = c.loop-slot.invariant.linked (omega (arith, all)) in
    subst (ReadsLines g.S.Source c.args.source.now c.loop-slot.source c.args.self.now.input c.loop-slot.self.input) (sym (replies-all f records linked.entries))
    (some-all g.S.Source c.args.source.now c.loop-slot.source c.args.self.now.input c.loop-slot.self.input _ _ (replies-none f records c.loop-slot.slot all) c.loop-slot.invariant.some)

pub returns-then-not-branch-clause-looked : goal.returns-then-not-branch-clause-looked
returns-then-not-branch-clause-looked g c =
    let records = c.args.world.now.records in
    let f = to_line c.args.frame (live_in records) in
    subst (λ (all : List OutLine). ReadsBeginning g.S.Source (λ ls. ls ≡ all) c.args.source.now c.expect_reply.new.source c.args.self.now.input c.expect_reply.new.self.input)
    (sym (replies-all f records c.in_ok-expect_reply.ensures.linked.entries))
    (some-looked g.S.Source c.args.source.now c.loop-slot.source c.expect_reply.new.source c.args.self.now.input c.loop-slot.self.input c.expect_reply.new.self.input _ _ c.loop-slot.invariant.some
    (rw c.if-not-branch.true at c.in_ok-expect_reply.ensures.looked))
