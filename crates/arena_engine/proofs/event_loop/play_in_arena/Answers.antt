use Rattle.std.proofs.Common.{sym, ap, subst}
use Rattle.arena_actions.specs.MapActions.{map_in}
use Rattle.arena_engine.specs.Progress.{MayGoOn, PlaysOn}
use Rattle.arena_engine.specs.Feedings.{Last, MayHaveOrder}
use Rattle.arena_engine.specs.Games.{GameView}
use Rattle.arena_engine.specs.Texts.{texts_of}
use Rattle.arena_engine.proofs.Ended.{no_memory_at, none_has_order, ends_same}
use Rattle.arena_engine.proofs.event_loop.play_in_arena.Goals as goal

pub returns-in-Err-clause-plays : goal.returns-in-Err-clause-plays
returns-in-Err-clause-plays g c =
    rw (c.before_frames.ensures.ended, c.into.ensures)
    (λ first_source first_sink begun. no_memory_at g.S.Source g.K.Sink c.args.feeding c.args.host.now.workers first_source c.args.source.now first_sink c.args.sink.now c.args.demo.now (map_in c.args.action.now) c.args.first begun _ c.before_frames.ensures.last)

pub play_with_helpers-ended-requires-after_bounds : goal.play_with_helpers-ended-requires-after_bounds
play_with_helpers-ended-requires-after_bounds g c κs within =
    subst (λ (v : GameView). MayGoOn g.S.Source g.K.Sink c.args.feeding c.args.host.now.workers c.args.source.now c.args.sink.now c.args.demo.now v c.args.first) (sym c.in-Ok.ensures.game) (c.requires.may c.in-Ok.ensures.rules)

pub returns-clause-plays : goal.returns-clause-plays
returns-clause-plays g c =
    let plays = subst (λ (v : GameView). PlaysOn g.S.Source g.K.Sink c.args.feeding c.args.host.now.workers c.args.source.now c.play_with_helpers-ended.new.source c.args.sink.now c.play_with_helpers-ended.new.sink c.args.demo.now v c.args.first
    c.play_with_helpers-ended.new.game.last c.play_with_helpers-ended.result) c.in-Ok.ensures.game c.play_with_helpers-ended.ensures.plays in
    λ first_source first_sink begun.
    ends_same g.S.Source g.K.Sink (texts_of c.args.feeding c.args.host.now.workers) first_source c.play_with_helpers-ended.new.source first_sink c.play_with_helpers-ended.new.sink _ _ _ _ c.with_game.ensures.last c.with_game.ensures.ended
    (plays first_source first_sink begun)

pub returns-in-Err-clause-orders : goal.returns-in-Err-clause-orders
returns-in-Err-clause-orders g c = none_has_order c.args.feeding _ c.before_frames.ensures.last

pub returns-clause-orders : goal.returns-clause-orders
returns-clause-orders g c =
    let begun = none_has_order c.args.feeding c.in-Ok.game.last (ap (λ (v : GameView). v.last) c.in-Ok.ensures.game) in
    subst (λ (l : Last). MayHaveOrder c.args.feeding l.order) (sym c.with_game.ensures.last) (c.play_with_helpers-ended.ensures.orders begun)
