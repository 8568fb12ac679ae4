use Rattle.std.proofs.Common.{List, ap, ◌∙◌, subst, sym}
use Rattle.demo_lines.specs.declared.event.Event.{Event}
use Rattle.demo_make.specs.Remaining.{remaining_events, event_of}
use Rattle.playback.specs.Playbacks.{IsReady}
use Rattle.match_play.specs.Games.{Plays}
use Rattle.match_play.proofs.Events.{IsGameUnderWay, under_way-first, under_way-next, is_ready, all_run, each_kept}
use Rattle.match_play.proofs.played.play_match.Goals as goal

pub loop-event-init : goal.loop-event-init
loop-event-init g c =
    under_way-first c.args.seed c.args.players c.args.host.now.workers c.args.frames c.args.game.now (remaining_events c.into_iter-event-iterator.result)
    c.requires.fresh (ap remaining_events c.into_iter-event-iterator.ensures.into_iter_gives ∙ c.new-event-items.ensures)

pub take-requires-after_bounds : goal.take-requires-after_bounds
take-requires-after_bounds g c κs within =
    let old = c.loop-event.game in
    let event = event_of c.in-Some.event in
    let range = c.requires.range in
    let under = subst (λ (events : List Event). IsGameUnderWay c.args.seed c.args.players c.args.host.now.workers c.args.frames old events) c.in-Some.ensures.steps c.loop-event.invariant in
    subst (λ (e : Event). IsReady old.course e) (sym c.to_event.ensures)
    (is_ready c.args.seed c.args.players c.args.host.now.workers c.args.frames old event (remaining_events c.next.new.self) range.in_range.few_players range.in_range.few_frames under)

pub loop-event-preserved : goal.loop-event-preserved
loop-event-preserved g c =
    let old = c.loop-event.game in
    let new = c.take.new.self in
    let under = subst (λ (events : List Event). IsGameUnderWay c.args.seed c.args.players c.args.host.now.workers c.args.frames old events) c.in-Some.ensures.steps c.loop-event.invariant in
    under_way-next c.args.seed c.args.players c.args.host.now.workers c.args.frames old new (event_of c.in-Some.event) (remaining_events c.next.new.self) under
    (subst (λ (e : Event). Plays c.args.host.now.workers old new e) c.to_event.ensures c.in_ok-take.ensures.next)

pub returns-clause-all : goal.returns-clause-all
returns-clause-all g c = all_run c.args.seed c.args.players c.args.host.now.workers c.args.frames c.loop-event.game (remaining_events c.loop-event.event-iterator) c.in-None.ensures.steps.0 c.loop-event.invariant

pub returns-clause-each : goal.returns-clause-each
returns-clause-each g c = each_kept c.args.seed c.args.players c.args.host.now.workers c.args.frames c.loop-event.game (remaining_events c.loop-event.event-iterator) c.loop-event.invariant
