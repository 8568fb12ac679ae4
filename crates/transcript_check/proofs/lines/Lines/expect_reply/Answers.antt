use Rattle.std.proofs.Common.{◌≡◌, map, Option, Some, IfOk, sym, ap, ◌∙◌, subst}
use Rattle.std.specs.Option.{option_to_list}
use Rattle.std.specs.Bool.{OnTrue, OnFalse}
use Rattle.entity_recs.specs.declared.rec.Rec.{Rec}
use Rattle.world_tree.specs.Live.{live_in}
use Rattle.world_tree.specs.Worlds.{record_of}
use Rattle.out_text.specs.FrameLines.{to_line}
use Rattle.out_text.specs.OutLines.{OutLine, printed_line, text_of}
use Rattle.out_text.specs.Transcripts.{BeginsWith}
use Rattle.transcript_check.specs.Reading.{ReadsLines, Misses}
use Rattle.transcript_check.proofs.Replies.{reply-line}
use Rattle.transcript_check.proofs.Texts.{ok_false-weaker}
use Rattle.transcript_check.proofs.ReadingOn.{misses-one}
use Rattle.transcript_check.proofs.lines.Lines.expect_reply.Goals as goal

pub returns-clause-ok : goal.returns-clause-ok
returns-clause-ok g c =
    let me = c.in-Some._player in
    let some : record_of c.args.world.now c.args.slot ≡ Some me = ap (record_of c.args.world.now) (sym c.from.ensures) ∙ sym c.get.ensures.record ∙ c.in-Some.is in
    let line = reply-line c.args.world.now c.args.frame c.args.slot me c.write_snapshot.new.out _ c.get.ensures.linked.entries some c.write_snapshot.ensures.bytes c.as_slice.ensures.value in
    subst (λ (o : Option Rec). IfOk c.expect_printed.result (λ is. OnTrue is (ReadsLines g.S.Source c.args.source.now c.expect_printed.new.source c.args.self.now.input c.expect_printed.new.input
    (map (to_line c.args.frame (live_in c.args.world.now.records)) (option_to_list o))))) (sym some) (rw line at c.expect_printed.ensures.ok)

pub returns-clause-missed : goal.returns-clause-missed
returns-clause-missed g c =
    let me = c.in-Some._player in
    let some : record_of c.args.world.now c.args.slot ≡ Some me = ap (record_of c.args.world.now) (sym c.from.ensures) ∙ sym c.get.ensures.record ∙ c.in-Some.is in
    let line = reply-line c.args.world.now c.args.frame c.args.slot me c.write_snapshot.new.out _ c.get.ensures.linked.entries some c.write_snapshot.ensures.bytes c.as_slice.ensures.value in
    let missed = subst (λ (l : OutLine). IfOk c.expect_printed.result (λ is. OnFalse is (Misses g.S.Source c.args.source.now c.expect_printed.new.source c.args.self.now.input
    (λ bytes. BeginsWith bytes (printed_line l) → ⊥)))) line c.expect_printed.ensures.missed in
    subst (λ (o : Option Rec). IfOk c.expect_printed.result (λ is. OnFalse is (Misses g.S.Source c.args.source.now c.expect_printed.new.source c.args.self.now.input
    (λ bytes. BeginsWith bytes (text_of (map (to_line c.args.frame (live_in c.args.world.now.records)) (option_to_list o))) → ⊥)))) (sym some)
    (ok_false-weaker c.expect_printed.result _ _ missed (misses-one g.S.Source c.args.source.now c.expect_printed.new.source c.args.self.now.input (to_line c.args.frame (live_in c.args.world.now.records) me)))
