use Rattle.std.proofs.Common.{Err, refl, sym, ap, ◌∙◌, subst}
use Rattle.std.proofs.lemmas.Result.{err_from_is_err_and}
use Rattle.demo_lines.specs.declared.event.Event.{Event}
use Rattle.demo_lines.specs.Kinds.{event_of_kind}
use Rattle.arena_engine.specs.StopOf.{stop_of}
use Rattle.arena_engine.specs.Texts.{texts_of}
use Rattle.arena_engine.proofs.Ended.{GoesFrom, game_stopped, all_played, reader_stopped, goes_further, ready_next, open_reader, ends_same, order_of_next, order_when_stopped}
use Rattle.arena_engine.proofs.event_loop.play_events.Goals as goal

pub events-init : goal.events-init
events-init g c =
    subst (λ (e : Event). GoesFrom g.S.Source g.K.Sink c.args.feeding c.args.host.now.workers c.args.source.now c.args.source.now c.args.sink.now c.args.sink.now c.args.demo.now c.args.demo.now c.args.game.now c.args.game.now c.args.first e)
    (sym c.into_parts-kind.ensures) (record { may = c.requires; each = λ first_source first_sink begun. begun; orders = λ before. before })

pub take-requires-after_bounds : goal.take-requires-after_bounds
take-requires-after_bounds g c κs within = ready_next _ _ _ _ _ _ _ _ _ c.events.invariant.may

pub events-smaller : goal.events-smaller
events-smaller g c =
    let going = sym (c.is_end.ensures c.events.arrival) ∙ c.if-is_end.false in
    c.in_ok-kind.ensures.event.fewer (open_reader _ _ _ _ _ _ _ _ _ c.events.invariant.may going)

pub returns-in_err-take-clause-plays : goal.returns-in_err-take-clause-plays
returns-in_err-take-clause-plays g c =
    let p = err_from_is_err_and c.from_residual.result c.from_residual.ensures.1 in
    λ first_source first_sink begun.
    ends_same g.S.Source g.K.Sink (texts_of c.args.feeding c.args.host.now.workers) first_source c.events.source first_sink c.take.new.sink c.take.new.self.last c.take.new.self.last (Err c.in_err-take.field-0.0) c.from_residual.result refl (p.1 ∙ ap Err p.2)
    (game_stopped g.S.Source g.K.Sink c.args.feeding c.args.host.now.workers first_source c.events.source first_sink c.events.sink c.events.demo c.events.game (event_of_kind c.events.kind c.events.arrival) (c.events.invariant.each first_source first_sink begun)
    c.take.new.sink c.take.new.self c.in_err-take.field-0.0 c.in_err-take.ensures.stops c.in_err-take.ensures.write_fault c.in_err-take.ensures.sure c.in_err-take.ensures.memory c.in_err-take.ensures.kept c.take.ensures.later)

pub returns-then-is_end-clause-plays : goal.returns-then-is_end-clause-plays
returns-then-is_end-clause-plays g c =
    λ first_source first_sink begun.
    all_played g.S.Source g.K.Sink c.args.feeding c.args.host.now.workers first_source _ first_sink _ _ _ _ (c.events.invariant.each first_source first_sink begun) _ _
    c.in_ok-take.ensures.next (sym (c.is_end.ensures c.events.arrival) ∙ c.if-is_end.true)

pub returns-in_err-kind-clause-plays : goal.returns-in_err-kind-clause-plays
returns-in_err-kind-clause-plays g c =
    let going = sym (c.is_end.ensures c.events.arrival) ∙ c.if-is_end.false in
    let p = err_from_is_err_and c.from_residual-in_err-kind.result c.from_residual-in_err-kind.ensures.1 in
    let stops = c.in_err-kind.ensures.stop in
    λ first_source first_sink begun.
    ends_same g.S.Source g.K.Sink (texts_of c.args.feeding c.args.host.now.workers) first_source c.next_into.new.source first_sink c.take.new.sink c.take.new.self.last c.take.new.self.last (Err (stop_of c.in_err-kind.field-0.0)) c.from_residual-in_err-kind.result refl (p.1 ∙ ap Err p.2)
    (reader_stopped g.S.Source g.K.Sink c.args.feeding c.args.host.now.workers first_source c.events.source first_sink c.events.sink c.events.demo c.events.game (event_of_kind c.events.kind c.events.arrival) (c.events.invariant.each first_source first_sink begun)
    c.take.new.sink c.take.new.self c.in_ok-take.ensures.next c.next_into.new.self c.next_into.new.source c.in_err-kind.field-0.0 going stops)

pub events-preserved : goal.events-preserved
events-preserved g c =
    let going = sym (c.is_end.ensures c.events.arrival) ∙ c.if-is_end.false in
    let given = c.in_ok-kind.ensures.event in
    goes_further g.S.Source g.K.Sink c.args.feeding c.args.host.now.workers c.args.source.now c.events.source c.next_into.new.source c.args.sink.now c.events.sink c.take.new.sink c.args.demo.now c.events.demo c.next_into.new.self
    c.args.game.now c.events.game c.take.new.self c.args.first (event_of_kind c.events.kind c.events.arrival) (event_of_kind c.in_ok-kind.kind c.next_into.new.arrival) c.events.invariant c.in_ok-take.ensures.next going
    given

pub returns-in_err-take-clause-orders : goal.returns-in_err-take-clause-orders
returns-in_err-take-clause-orders g c =
    let stops = c.in_err-take.ensures in
    λ before. order_when_stopped c.args.feeding c.args.host.now.workers c.events.game c.take.new.self (event_of_kind c.events.kind c.events.arrival) c.in_err-take.field-0.0 _ stops.stops stops.write_fault stops.kept (c.events.invariant.orders before)

pub returns-then-is_end-clause-orders : goal.returns-then-is_end-clause-orders
returns-then-is_end-clause-orders g c =
    λ before. order_of_next c.args.feeding c.args.host.now.workers c.events.game c.take.new.self (event_of_kind c.events.kind c.events.arrival) _ c.in_ok-take.ensures.next (c.events.invariant.orders before)

pub returns-in_err-kind-clause-orders : goal.returns-in_err-kind-clause-orders
returns-in_err-kind-clause-orders g c =
    λ before. order_of_next c.args.feeding c.args.host.now.workers c.events.game c.take.new.self (event_of_kind c.events.kind c.events.arrival) _ c.in_ok-take.ensures.next (c.events.invariant.orders before)
