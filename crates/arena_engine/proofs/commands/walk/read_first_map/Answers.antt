use Rattle.std.proofs.Common.{Err, sym, ap, ◌∙◌}
use Rattle.std.proofs.lemmas.Result.{err_from_is_err_and}
use Rattle.arena_engine.proofs.FirstMap.{gives_first_map, stops_before}
use Rattle.arena_engine.proofs.commands.walk.read_first_map.Goals as goal

pub returns-in_err-_event-clause-err : goal.returns-in_err-_event-clause-err
returns-in_err-_event-clause-err g c =
    let p = err_from_is_err_and c.from_residual-in_err-_event.result c.from_residual-in_err-_event.ensures.1 in
    rw (p.1 ∙ ap Err p.2)
    (stops_before g.S.Source c.in_ok-demo.demo c.next.new.self c.args.source.now c.next.new.source c.in_ok-demo.ensures c.in_err-_event.field-0.0 c.in_err-_event.ensures.stop)

pub returns-clause-ok : goal.returns-clause-ok
returns-clause-ok g c =
    gives_first_map g.S.Source c.in_ok-demo.demo c.next.new.self c.args.source.now c.next.new.source c.in_ok-demo.ensures c.in_ok-_event._event c.unwrap.result c.in_ok-_event.ensures.event
    (sym c.take_map.ensures.map ∙ c.unwrap.ensures)
