use Rattle.std.proofs.Common.{Some, None, ◌++◌, ap, ◌∙◌, subst, arith, length, length-append}
use Rattle.std.proofs.lemmas.Result.{err_from_is_err_and}
use Rattle.std.specs.Io.KnownBytes.{Appends}
use Rattle.edge_io.specs.Writes.{AppendsPart}
use Rattle.edge_io.proofs.Writing.{IsWritten}
use Rattle.demo_make.specs.Remaining.{event_of, event_text, events_text}
use Rattle.demo_make.proofs.Passed.{passed, gathered, passed-part, passed-all, on_ok, on_err}
use Rattle.demo_make.proofs.writing.write_events.Goals as goal

pub loop-event-preserved : goal.loop-event-preserved
loop-event-preserved g c =
    let old = g.K.Sink.taken c.args.sink.now in
    let whole = c.args.text.now ++ events_text (g.E.Events.left c.into_iter-event-iterator.result) in
    let step = g.met.E.Events.gives c.loop-event.event-iterator (Some c.in-Some.event) c.next.new.self c.in-Some.ensures.steps in
    let line = event_text (event_of c.in-Some.event) in
    let more = events_text (g.E.Events.left c.next.new.self) in
    let kept = c.make_room.new.text in
    let texts = ap events_text step in
    let split = ap (λ t. c.loop-event.text ++ t) texts in
    let written = subst (IsWritten old (g.K.Sink.taken c.loop-event.sink) whole) split c.loop-event.invariant.written in
    let on = passed old (g.K.Sink.taken c.loop-event.sink) (g.K.Sink.taken c.make_room.new.sink) whole c.loop-event.text (line ++ more) kept written c.in_ok-make_room.ensures.ok in
    rw c.push_event.ensures (record {
      written = gathered old (g.K.Sink.taken c.make_room.new.sink) whole kept line more on;
      uncounted = c.in_ok-make_room.ensures.uncounted ∙ c.loop-event.invariant.uncounted;
      room = omega (
        arith,
        c.in_ok-make_room.ensures.room,
        c.loop-event.invariant.room,
        ap length split,
        length-append c.loop-event.text (line ++ more),
        length-append line more,
        length-append kept line,
        length-append (kept ++ line) more,
      );
    })

pub returns-in_err-make_room-clause-err : goal.returns-in_err-make_room-clause-err
returns-in_err-make_room-clause-err g c =
    let p = err_from_is_err_and c.from_residual.result c.from_residual.ensures.1 in
    let whole = c.args.text.now ++ events_text (g.E.Events.left c.into_iter-event-iterator.result) in
    let same = ap (λ e. c.args.text.now ++ events_text (g.E.Events.left e)) c.into_iter-event-iterator.ensures.into_iter_gives in
    rw p.1
    (subst (AppendsPart (g.K.Sink.taken c.args.sink.now) (g.K.Sink.taken c.make_room.new.sink)) same
    (passed-part (g.K.Sink.taken c.args.sink.now) (g.K.Sink.taken c.loop-event.sink) (g.K.Sink.taken c.make_room.new.sink) whole
    c.loop-event.text (events_text (g.E.Events.left c.loop-event.event-iterator)) c.loop-event.invariant.written c.in_err-make_room.ensures.err))

pub returns-clause-ok : goal.returns-clause-ok
returns-clause-ok g c =
    let old = g.K.Sink.taken c.args.sink.now in
    let now = g.K.Sink.taken c.loop-event.sink in
    let new = g.K.Sink.taken c.write_whole.new.sink in
    let text = c.loop-event.text in
    let whole = c.args.text.now ++ events_text (g.E.Events.left c.into_iter-event-iterator.result) in
    let same = ap (λ e. c.args.text.now ++ events_text (g.E.Events.left e)) c.into_iter-event-iterator.ensures.into_iter_gives in
    let none = ap (λ es. text ++ events_text es) (g.met.E.Events.gives c.loop-event.event-iterator None c.next.new.self c.in-None.ensures.steps).0 in
    let written = subst (IsWritten old now whole) none c.loop-event.invariant.written in
    on_ok (Appends now new c.as_slice.result.now) (Appends old new (c.args.text.now ++ events_text (g.E.Events.left c.args.events))) c.write_whole.result
    (λ h. subst (Appends old new) same (passed-all old now new whole text written (subst (Appends now new) c.as_slice.ensures.value h)))
    c.write_whole.ensures.ok

pub returns-clause-err : goal.returns-clause-err
returns-clause-err g c =
    let old = g.K.Sink.taken c.args.sink.now in
    let now = g.K.Sink.taken c.loop-event.sink in
    let new = g.K.Sink.taken c.write_whole.new.sink in
    let text = c.loop-event.text in
    let whole = c.args.text.now ++ events_text (g.E.Events.left c.into_iter-event-iterator.result) in
    let same = ap (λ e. c.args.text.now ++ events_text (g.E.Events.left e)) c.into_iter-event-iterator.ensures.into_iter_gives in
    on_err (AppendsPart now new c.as_slice.result.now) (AppendsPart old new (c.args.text.now ++ events_text (g.E.Events.left c.args.events))) c.write_whole.result
    (λ h. subst (AppendsPart old new) same
    (passed-part old now new whole text (events_text (g.E.Events.left c.loop-event.event-iterator)) c.loop-event.invariant.written
    (subst (AppendsPart now new) c.as_slice.ensures.value h)))
    c.write_whole.ensures.err
