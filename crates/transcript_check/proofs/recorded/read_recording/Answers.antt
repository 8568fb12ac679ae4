use Rattle.std.proofs.Common.{Err, sym, ap, ◌∙◌}
use Rattle.std.proofs.lemmas.Result.{err_from_is_err_and}
use Rattle.transcript_check.proofs.Recording.{begun, goes_on, ends, stops}
use Rattle.transcript_check.proofs.recorded.read_recording.Goals as goal

pub events-init : goal.events-init
events-init g c = begun g.S.Source c.args.reader.now.reading.limit c.args.source.now c.args.reader.now c.new-recorded.result c.requires c.new-recorded.ensures

pub returns-in_err-event-clause-err : goal.returns-in_err-event-clause-err
returns-in_err-event-clause-err g c =
    let p = err_from_is_err_and c.from_residual.result c.from_residual.ensures.1 in
    let given = c.in_err-event.ensures.stop in
    rw (p.1 ∙ ap Err p.2)
    (stops g.S.Source c.args.reader.now.reading.limit c.args.source.now c.events.source c.events.reader c.events.recorded c.events.invariant c.next.new.source c.next.new.self c.in_err-event.field-0.0 given)

pub returns-then-is_last-clause-ok : goal.returns-then-is_last-clause-ok
returns-then-is_last-clause-ok g c =
    let given = c.in_ok-event.ensures.event in
    ends g.S.Source c.args.reader.now.reading.limit c.args.source.now c.events.source c.events.reader c.events.recorded c.events.invariant c.next.new.source c.next.new.self c.in_ok-event.event c.take.new.self
    given
    c.in_ok-take.ensures (sym c.is_end-is_last.ensures ∙ c.if-is_last.true)

pub events-preserved : goal.events-preserved
events-preserved g c =
    let given = c.in_ok-event.ensures.event in
    goes_on g.S.Source c.args.reader.now.reading.limit c.args.source.now c.events.source c.events.reader c.events.recorded c.events.invariant c.next.new.source c.next.new.self c.in_ok-event.event c.take.new.self
    given
    c.in_ok-take.ensures (sym c.is_end-is_last.ensures ∙ c.if-is_last.false)
