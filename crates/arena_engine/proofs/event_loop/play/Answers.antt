use Rattle.std.proofs.Common.{refl, sym, ap, ◌∙◌, subst}
use Rattle.arena_actions.specs.MapActions.{map_in}
use Rattle.arena_engine.specs.Progress.{IsNext}
use Rattle.arena_map.specs.Maps.{IsMap}
use Rattle.arena_engine.specs.Games.{new_game}
use Rattle.arena_engine.specs.Texts.{texts_of}
use Rattle.arena_engine.proofs.FedTexts.{hold_at_first}
use Rattle.arena_engine.proofs.Ended.{no_memory_at_first, stopped_at_first, first_is_next, none_has_order}
use Rattle.arena_engine.proofs.event_loop.play.Goals as goal

pub returns-in-Err-clause-played : goal.returns-in-Err-clause-played
returns-in-Err-clause-played g c =
    rw (c.before_frames.ensures.ended, c.into.ensures)
    (no_memory_at_first g.S.Source g.K.Sink (texts_of c.args.feeding c.args.host.now.workers) (hold_at_first c.args.feeding c.args.host.now.workers) c.args.source.now c.args.source.now c.args.sink.now _ c.before_frames.ensures.last refl)

pub returns-in-Err-next-clause-played : goal.returns-in-Err-next-clause-played
returns-in-Err-next-clause-played g c =
    rw (c.before_frames-in-Err-next.ensures.ended, c.into-in-Err-next.ensures)
    (stopped_at_first g.S.Source g.K.Sink (texts_of c.args.feeding c.args.host.now.workers) (hold_at_first c.args.feeding c.args.host.now.workers) c.args.source.now c.next.new.source c.args.sink.now _ c.before_frames-in-Err-next.ensures.last c.in-Ok.demo c.next.new.self c.in-Err-next.stop c.in-Ok.ensures c.in-Err-next.ensures.stop)

pub returns-in-Err-indexed-clause-played : goal.returns-in-Err-indexed-clause-played
returns-in-Err-indexed-clause-played g c =
    rw (c.before_frames-in-Err-indexed.ensures.ended, c.into-in-Err-indexed.ensures)
    (no_memory_at_first g.S.Source g.K.Sink (texts_of c.args.feeding c.args.host.now.workers) (hold_at_first c.args.feeding c.args.host.now.workers) c.args.source.now c.next.new.source c.args.sink.now _ c.before_frames-in-Err-indexed.ensures.last c.in-Ok-next.ensures.event.uncounted)

pub play_in_arena-requires-clause-may : goal.play_in_arena-requires-clause-may
play_in_arena-requires-clause-may g c κs within = λ is_map. record {
  first_source = c.args.source.now;
  first_sink = c.args.sink.now;
  is_next =
      let given = c.in-Ok-next.ensures.event in
      first_is_next g.S.Source g.K.Sink c.args.feeding c.args.host.now.workers c.args.source.now c.next.new.source c.args.sink.now c.in-Ok.demo c.next.new.self c.take_map.new.self c.unwrap-map.result (new_game (map_in c.in-Ok-indexed.action)) c.in-Ok-next.event
      c.in-Ok.ensures c.take_map.ensures.rest given
      (sym c.take_map.ensures.map ∙ c.unwrap-map.ensures) (subst IsMap c.in-Ok-indexed.ensures.map_is is_map) (ap new_game c.in-Ok-indexed.ensures.map_is);
}

pub returns-clause-played : goal.returns-clause-played
returns-clause-played g c =
    let given = c.in-Ok-next.ensures.event in
    let is_next : IsNext g.S.Source g.K.Sink c.args.feeding c.args.host.now.workers c.args.source.now c.next.new.source c.args.sink.now c.args.sink.now c.take_map.new.self (new_game (map_in c.in-Ok-indexed.action)) c.in-Ok-next.event =
    first_is_next g.S.Source g.K.Sink c.args.feeding c.args.host.now.workers c.args.source.now c.next.new.source c.args.sink.now c.in-Ok.demo c.next.new.self c.take_map.new.self c.unwrap-map.result (new_game (map_in c.in-Ok-indexed.action)) c.in-Ok-next.event
    c.in-Ok.ensures c.take_map.ensures.rest given
    (sym c.take_map.ensures.map ∙ c.unwrap-map.ensures) (subst IsMap c.in-Ok-indexed.ensures.map_is c.play_in_arena.ensures.rules) (ap new_game c.in-Ok-indexed.ensures.map_is) in
    c.play_in_arena.ensures.plays c.args.source.now c.args.sink.now is_next

pub returns-in-Err-clause-orders : goal.returns-in-Err-clause-orders
returns-in-Err-clause-orders g c = none_has_order c.args.feeding _ c.before_frames.ensures.last

pub returns-in-Err-next-clause-orders : goal.returns-in-Err-next-clause-orders
returns-in-Err-next-clause-orders g c = none_has_order c.args.feeding _ c.before_frames-in-Err-next.ensures.last

pub returns-in-Err-indexed-clause-orders : goal.returns-in-Err-indexed-clause-orders
returns-in-Err-indexed-clause-orders g c = none_has_order c.args.feeding _ c.before_frames-in-Err-indexed.ensures.last
