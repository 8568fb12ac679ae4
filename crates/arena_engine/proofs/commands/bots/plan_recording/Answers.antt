use Rattle.std.proofs.Common.{Err, ap, ◌∙◌}
use Rattle.arena_engine.specs.Reports.{status_of, place_of}
use Rattle.arena_engine.proofs.WaysReported.{way_planned, no_spawn_planned, no_walk_planned, cut_planned}
use Rattle.arena_engine.proofs.Stopped.{stop-planned, stop-ends}
use Rattle.arena_engine.proofs.commands.bots.plan_recording.Goals as goal

pub returns-in-Err-clause-planned : goal.returns-in-Err-clause-planned
returns-in-Err-clause-planned g c =
    let r = c.of_stop in
    stop-planned g.S.Source g.K.Sink c.args.source.now c.read_map.new.source c.args.sink.now r.result c.args.target r.ensures.last (r.ensures.all ∙ c.new.ensures) c.in-Err.stop c.in-Err.ensures.err
    (r.ensures.status ∙ ap (λ stop. status_of (Err stop)) c.from.ensures) (r.ensures.place ∙ ap (λ stop. place_of (Err stop)) c.from.ensures)

pub returns-in-Err-clause-ends : goal.returns-in-Err-clause-ends
returns-in-Err-clause-ends g c =
    let r = c.of_stop in
    stop-ends g.S.Source g.K.Sink c.args.source.now c.read_map.new.source c.args.sink.now r.result c.in-Err.stop c.in-Err.ensures.err
    (r.ensures.status ∙ ap (λ stop. status_of (Err stop)) c.from.ensures) (r.ensures.place ∙ ap (λ stop. place_of (Err stop)) c.from.ensures)

pub returns-in-Ok-Found-clause-planned : goal.returns-in-Ok-Found-clause-planned
returns-in-Ok-Found-clause-planned g c =
    let r = c.of_status_alone in
    way_planned g.S.Source g.K.Sink c.args.target c.args.source.now c.read_map.new.source c.args.sink.now c.write_ways.new.sink r.result r.ensures.last r.ensures.all
    c.in-Ok.map c.in-Ok.ensures.ok r.ensures.status (rw c.in-Ok-Found.field-0-is at c.in-Ok-Found.ensures.ok)

pub returns-in-Ok-NoSpawn-clause-planned : goal.returns-in-Ok-NoSpawn-clause-planned
returns-in-Ok-NoSpawn-clause-planned g c =
    let r = c.of_no_way in
    no_spawn_planned g.S.Source g.K.Sink c.args.target c.args.source.now c.read_map.new.source c.args.sink.now c.write_ways.new.sink r.result r.ensures.last r.ensures.all
    c.in-Ok.map c.in-Ok.ensures.ok r.ensures.status r.ensures.place.1 (rw c.in-Ok-NoSpawn.field-0-is at c.in-Ok-NoSpawn.ensures.ok)

pub returns-in-Ok-NoWalk-clause-planned : goal.returns-in-Ok-NoWalk-clause-planned
returns-in-Ok-NoWalk-clause-planned g c =
    let r = c.of_no_way-in-Ok-NoWalk in
    no_walk_planned g.S.Source g.K.Sink c.args.target c.args.source.now c.read_map.new.source c.args.sink.now c.write_ways.new.sink r.result r.ensures.last r.ensures.all
    c.in-Ok.map c.in-Ok.ensures.ok r.ensures.status r.ensures.place.1 (rw c.in-Ok-NoWalk.field-0-is at c.in-Ok-NoWalk.ensures.ok)

pub returns-in-Err-WriteFault-clause-planned : goal.returns-in-Err-WriteFault-clause-planned
returns-in-Err-WriteFault-clause-planned g c =
    let r = c.of_status_alone-in-Err-WriteFault in
    cut_planned g.S.Source g.K.Sink c.args.target c.args.source.now c.read_map.new.source c.args.sink.now c.write_ways.new.sink r.result r.ensures.last r.ensures.all
    c.in-Ok.map c.in-Ok.ensures.ok r.ensures.status (rw c.in-Err-WriteFault.field-0-is at c.in-Err-WriteFault.ensures.err)
