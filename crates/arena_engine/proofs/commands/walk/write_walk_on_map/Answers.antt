use Rattle.std.proofs.Common.{Err, ap, ◌∙◌}
use Rattle.arena_engine.specs.Reports.{status_of, place_of}
use Rattle.arena_engine.proofs.Stopped.{stop-ends}
use Rattle.arena_engine.proofs.Walking.{written_walked, written_ends, stop_walked}
use Rattle.arena_engine.proofs.commands.walk.write_walk_on_map.Goals as goal

pub returns-in-Err-clause-walked : goal.returns-in-Err-clause-walked
returns-in-Err-clause-walked g c =
    let r = c.of_stop in
    stop_walked g.S.Source g.K.Sink c.args.seed c.args.players c.args.frames c.args.source.now c.read_first_map.new.source c.args.sink.now r.result r.ensures.last (r.ensures.all ∙ c.new.ensures)
    c.in-Err.stop c.in-Err.ensures.err (r.ensures.status ∙ ap (λ stop. status_of (Err stop)) c.from.ensures) (r.ensures.place ∙ ap (λ stop. place_of (Err stop)) c.from.ensures)

pub returns-in-Err-clause-ends : goal.returns-in-Err-clause-ends
returns-in-Err-clause-ends g c =
    let r = c.of_stop in
    stop-ends g.S.Source g.K.Sink c.args.source.now c.read_first_map.new.source c.args.sink.now r.result c.in-Err.stop c.in-Err.ensures.err.stops
    (r.ensures.status ∙ ap (λ stop. status_of (Err stop)) c.from.ensures) (r.ensures.place ∙ ap (λ stop. place_of (Err stop)) c.from.ensures)

pub returns-clause-walked : goal.returns-clause-walked
returns-clause-walked g c =
    let r = c.report_of in
    let wrote = c.write_walk.ensures in
    written_walked g.S.Source g.K.Sink c.args.seed c.args.players c.args.frames c.args.source.now c.read_first_map.new.source c.args.sink.now c.write_walk.new.sink r.result
    c.in-Ok.map c.in-Ok.ensures.ok r.ensures.bare r.ensures.no_journals c.write_walk.result r.ensures.status wrote.ok wrote.write_fault wrote.no_memory wrote.rules wrote.fault wrote.sure

pub returns-clause-ends : goal.returns-clause-ends
returns-clause-ends g c =
    let r = c.report_of in
    let wrote = c.write_walk.ensures in
    written_ends g.S.Source g.K.Sink c.args.seed c.args.players c.args.frames c.args.source.now c.read_first_map.new.source c.args.sink.now c.write_walk.new.sink r.result
    c.in-Ok.map c.in-Ok.ensures.ok r.ensures.bare r.ensures.no_journals c.write_walk.result r.ensures.status wrote.no_memory wrote.later wrote.fault wrote.uncounted
