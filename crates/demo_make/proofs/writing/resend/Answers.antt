use Rattle.std.proofs.Common.{◌≡◌, ◌≤◌, ◌+◌, Err, ap, ◌∙◌, sym, subst, length}
use Rattle.std.specs.Result.{OnOk}
use Rattle.std.specs.Io.KnownBytes.{Appends}
use Rattle.edge_io.specs.Writes.{AppendsPart}
use Rattle.demo_make.specs.declared.make_stop.MakeStop.TheVariants.{WriteFault}
use Rattle.demo_make.specs.Remaining.{text_with}
use Rattle.demo_make.proofs.Texts.{resent_text-parts}
use Rattle.demo_make.proofs.writing.resend.Goals as goal

pub returns-clause-ok : goal.returns-clause-ok
returns-clause-ok g c =
    let whole = ap text_with c.with_resends.ensures ∙ resent_text-parts c.args.seed c.args.players c.args.frames in
    subst (λ text. OnOk c.write_recording.result (Appends (g.K.Sink.taken c.args.sink.now) (g.K.Sink.taken c.write_recording.new.sink) text)) whole c.write_recording.ensures.ok

pub returns-clause-write_fault : goal.returns-clause-write_fault
returns-clause-write_fault g c =
    let whole = ap text_with c.with_resends.ensures ∙ resent_text-parts c.args.seed c.args.players c.args.frames in
    subst (λ text. c.write_recording.result ≡ Err WriteFault → AppendsPart (g.K.Sink.taken c.args.sink.now) (g.K.Sink.taken c.write_recording.new.sink) text)
    whole c.write_recording.ensures.write_fault

pub returns-clause-sure : goal.returns-clause-sure
returns-clause-sure g c =
    let whole = ap text_with c.with_resends.ensures ∙ resent_text-parts c.args.seed c.args.players c.args.frames in
    λ fits. c.write_recording.ensures.sure (subst (λ text. length text ≤ g.K.Sink.room c.args.sink.now) (sym whole) fits)

pub returns-clause-room : goal.returns-clause-room
returns-clause-room g c =
    let whole = ap text_with c.with_resends.ensures ∙ resent_text-parts c.args.seed c.args.players c.args.frames in
    subst (λ text. OnOk c.write_recording.result (g.K.Sink.room c.args.sink.now ≤ g.K.Sink.room c.write_recording.new.sink + length text)) whole c.write_recording.ensures.room
