use Rattle.std.proofs.Common.{◌≤◌, ◌+◌, ◌++◌, ap, sym, subst, length}
use Rattle.std.specs.Io.KnownBytes.{Appends}
use Rattle.std.proofs.lemmas.Bool.{false≢true}
use Rattle.edge_io.specs.Writes.{AppendsPart}
use Rattle.demo_make.specs.Remaining.{remaining_events, events_text}
use Rattle.demo_make.proofs.writing.write_recording.Goals as goal

pub returns-in_err-write_events-clause-write_fault : goal.returns-in_err-write_events-clause-write_fault
returns-in_err-write_events-clause-write_fault g c =
    let whole = ap (λ t. t ++ events_text (remaining_events c.args.events)) c.push_map.ensures in
    λ _. subst (AppendsPart (g.K.Sink.taken c.args.sink.now) (g.K.Sink.taken c.write_events.new.sink)) whole c.in_err-write_events.ensures.err

pub returns-in_err-write_events-clause-sure : goal.returns-in_err-write_events-clause-sure
returns-in_err-write_events-clause-sure g c =
    let whole = ap (λ t. t ++ events_text (remaining_events c.args.events)) c.push_map.ensures in
    λ fits _. false≢true (c.in_err-write_events.ensures.sure (subst (λ t. length t ≤ g.K.Sink.room c.args.sink.now) (sym whole) fits))

pub returns-clause-ok : goal.returns-clause-ok
returns-clause-ok g c =
    let whole = ap (λ t. t ++ events_text (remaining_events c.args.events)) c.push_map.ensures in
    subst (Appends (g.K.Sink.taken c.args.sink.now) (g.K.Sink.taken c.write_events.new.sink)) whole c.in_ok-write_events.ensures.ok

pub returns-clause-room : goal.returns-clause-room
returns-clause-room g c =
    let whole = ap (λ t. t ++ events_text (remaining_events c.args.events)) c.push_map.ensures in
    subst (λ t. g.K.Sink.room c.args.sink.now ≤ g.K.Sink.room c.write_events.new.sink + length t) whole c.in_ok-write_events.ensures.room
