use Rattle.std.proofs.Common.{◌++◌, ap, subst}
use Rattle.std.proofs.lemmas.Result.{err_from_is_err_and}
use Rattle.std.specs.Io.KnownBytes.{Appends}
use Rattle.edge_io.specs.Writes.{AppendsPart}
use Rattle.demo_make.specs.Remaining.{events_text}
use Rattle.demo_make.proofs.Passed.{on_ok, on_err}
use Rattle.demo_walk.specs.Remaining.{remaining_events}
use Rattle.demo_walk.proofs.Pieces.{first-part, second-part, both-pieces}
use Rattle.demo_walk.proofs.writing.write_parts.Goals as goal

pub returns-clause-ok : goal.returns-clause-ok
returns-clause-ok g c =
    let more = events_text (remaining_events c.args.events) in
    let old = g.K.Sink.taken c.args.sink.now in
    let now = g.K.Sink.taken c.write_whole.new.sink in
    let new = g.K.Sink.taken c.write_events.new.sink in
    let same = ap (λ t. t ++ more) c.requires in
    on_ok (Appends now new (c.args.text.now ++ more)) (Appends old new (c.args.lines.now ++ more)) c.write_events.result
    (λ h. both-pieces old now new c.args.lines.now more c.in_ok-write_whole.ensures.ok (subst (Appends now new) same h))
    c.write_events.ensures.ok

pub returns-clause-err : goal.returns-clause-err
returns-clause-err g c =
    let more = events_text (remaining_events c.args.events) in
    let old = g.K.Sink.taken c.args.sink.now in
    let now = g.K.Sink.taken c.write_whole.new.sink in
    let new = g.K.Sink.taken c.write_events.new.sink in
    let same = ap (λ t. t ++ more) c.requires in
    on_err (AppendsPart now new (c.args.text.now ++ more)) (AppendsPart old new (c.args.lines.now ++ more)) c.write_events.result
    (λ h. second-part old now new c.args.lines.now more c.in_ok-write_whole.ensures.ok (subst (AppendsPart now new) same h))
    c.write_events.ensures.err

pub returns-in_err-write_whole-clause-err : goal.returns-in_err-write_whole-clause-err
returns-in_err-write_whole-clause-err g c =
    let more = events_text (remaining_events c.args.events) in
    let p = err_from_is_err_and c.from_residual.result c.from_residual.ensures.1 in
    rw p.1 (first-part (g.K.Sink.taken c.args.sink.now) (g.K.Sink.taken c.write_whole.new.sink) c.args.lines.now more c.in_err-write_whole.ensures.err)
