use Rattle.std.proofs.Common.{Err, sym, ap, ◌∙◌}
use Rattle.std.proofs.lemmas.Result.{err_from_is_err_and}
use Rattle.arena_engine.proofs.MapRead.{begun, goes_on, gives_map, gives_stop}
use Rattle.arena_engine.proofs.commands.bots.read_map.Goals as goal

pub events-init : goal.events-init
events-init g c = begun g.S.Source c.args.source.now c.in_ok-demo.demo c.in_ok-demo.ensures

pub returns-in_err-event-clause-err : goal.returns-in_err-event-clause-err
returns-in_err-event-clause-err g c =
    let p = err_from_is_err_and c.from_residual-in_err-event.result c.from_residual-in_err-event.ensures.1 in
    let stops = c.in_err-event.ensures.stop in
    rw (p.1 ∙ ap Err p.2)
    (gives_stop g.S.Source c.args.source.now c.events.source c.events.demo c.events.invariant c.next.new.source c.next.new.self c.in_err-event.field-0.0 stops)

pub returns-then-is_end-clause-ok : goal.returns-then-is_end-clause-ok
returns-then-is_end-clause-ok g c =
    let given = c.in_ok-event.ensures.event in
    gives_map g.S.Source c.args.source.now c.events.source c.events.demo c.events.invariant c.next.new.source c.next.new.self c.in_ok-event.event c.unwrap.result
    given
    (sym c.is_end.ensures ∙ c.if-is_end.true) (sym c.take_map.ensures.map ∙ c.unwrap.ensures)

pub events-preserved : goal.events-preserved
events-preserved g c =
    let given = c.in_ok-event.ensures.event in
    goes_on g.S.Source c.args.source.now c.events.source c.events.demo c.events.invariant c.next.new.source c.next.new.self c.in_ok-event.event
    given
    given.map (sym c.is_end.ensures ∙ c.if-is_end.false)
