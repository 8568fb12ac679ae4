use Rattle.std.proofs.Common.{◌≡◌, ◌+◌, ◌≤◌, ◌++◌, length}
use Rattle.edge_io.proofs.Writing.{IsWritten}
use Rattle.demo_make.specs.Remaining.{events_text}
use Rattle.demo_make.proofs.writing.write_events.Given as goal

-- what was not written is gathered or has still to come
abbrev pub invariant-loop-event : goal.invariant-loop-event
invariant-loop-event g l =
    let whole = l.initial.text ++ events_text (g.E.Events.left l.initial.event-iterator) in
    let rest = l.text ++ events_text (g.E.Events.left l.event-iterator) in
    record {
      written : IsWritten (g.K.Sink.taken l.initial.sink) (g.K.Sink.taken l.sink) whole rest;
      uncounted : g.K.Sink.faults l.sink ≡ g.K.Sink.faults l.initial.sink;
      room : g.K.Sink.room l.initial.sink + length rest ≤ g.K.Sink.room l.sink + length whole;
    }
