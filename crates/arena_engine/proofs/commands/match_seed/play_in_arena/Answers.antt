use Rattle.std.proofs.Common.{rules, ◌≡◌, ◌∙◌, ap}
use Rattle.std.specs.Io.KnownBytes.{Appends}
use Rattle.edge_io.specs.Writes.{AppendsPart}
use Rattle.match_play.specs.Games.{new_game}
use Rattle.arena_engine.specs.Making.{ArePlayed, line_of_match}
use Rattle.arena_engine.proofs.Summing.{line_is, are_played}
use Rattle.arena_engine.proofs.commands.match_seed.play_in_arena.Goals as goal

pub play_with_helpers-ended-requires-clause-fresh : goal.play_with_helpers-ended-requires-clause-fresh
play_with_helpers-ended-requires-clause-fresh g c κs within = c.in-Ok.ensures ∙ ap new_game c.requires.action.map_is

pub returns-clause-matched : goal.returns-clause-matched
returns-clause-matched g c =
    let done : c.sum_up.result.status ≡ 0 → Appends (g.K.Sink.taken c.args.sink.now) (g.K.Sink.taken c.sum_up.new.sink) (line_of_match c.args.seed c.args.players c.sum_up.result.all) =
    λ is. line_is c.play_with_helpers-ended.result c.args.seed c.args.players c.play_with_helpers-ended.new.game.journals c.sum_up.result.all (Appends (g.K.Sink.taken c.args.sink.now) (g.K.Sink.taken c.sum_up.new.sink)) c.sum_up.ensures.all c.play_with_helpers-ended.ensures.totals (c.sum_up.ensures.done is) in
    let cut : c.sum_up.result.status ≡ 4 → AppendsPart (g.K.Sink.taken c.args.sink.now) (g.K.Sink.taken c.sum_up.new.sink) (line_of_match c.args.seed c.args.players c.sum_up.result.all) =
    λ is. line_is c.play_with_helpers-ended.result c.args.seed c.args.players c.play_with_helpers-ended.new.game.journals c.sum_up.result.all (AppendsPart (g.K.Sink.taken c.args.sink.now) (g.K.Sink.taken c.sum_up.new.sink)) c.sum_up.ensures.all c.play_with_helpers-ended.ensures.totals (c.sum_up.ensures.write_fault is) in
    let frames : ArePlayed c.args.seed c.args.players c.args.frames c.args.host.now.workers c.sum_up.result.status c.sum_up.result.all =
    are_played c.play_with_helpers-ended.result c.args.seed c.args.players c.args.frames c.args.host.now.workers c.sum_up.result.status c.play_with_helpers-ended.new.game c.sum_up.result.all c.sum_up.ensures.all c.play_with_helpers-ended.ensures.each c.play_with_helpers-ended.ensures.few c.play_with_helpers-ended.ensures.all c.sum_up.ensures.whole in
    search (rules, done, cut, frames)
