use Rattle.std.proofs.Common.{ap, ◌∙◌}
use Rattle.entity_recs.specs.Commands.{command_of}
use Rattle.entity_recs.specs.Worlds.{others_of}
use Rattle.arena_actions.specs.MapActions.{map_in}
use Rattle.plain_server.specs.RecordsById.{world_of}
use Rattle.transcript_check.proofs.Moving.{player-on, others-records, others-rising, effect-is}
use Rattle.transcript_check.proofs.mover.Mover.effect.Goals as goal

pub act-requires-clause-player : goal.act-requires-clause-player
act-requires-clause-player c =
    player-on (map_in c.args.self.now.action) c.args.world.now.records c.args.cmd.now.slot c.player_in-me.result c.requires.valid c.requires.live.slot c.player_in-me.ensures.player c.player_in-me.ensures.score

pub act-requires-clause-records : goal.act-requires-clause-records
act-requires-clause-records c =
    others-records c.args.world.now.records c.args.cmd.now.slot c.as_slice.result.now c.player_in-me.ensures.linked.entries
    (c.as_slice.ensures ∙ c.list_others.ensures.others ∙ ap (λ n. others_of (world_of c.args.world.now.records) n) c.from.ensures)

pub act-requires-clause-rising : goal.act-requires-clause-rising
act-requires-clause-rising c =
    others-rising c.args.world.now.records c.args.cmd.now.slot c.as_slice.result.now c.player_in-me.ensures.linked.entries
    (c.as_slice.ensures ∙ c.list_others.ensures.others ∙ ap (λ n. others_of (world_of c.args.world.now.records) n) c.from.ensures)

pub returns-clause-effect : goal.returns-clause-effect
returns-clause-effect c =
    effect-is (map_in c.args.self.now.action) c.args.world.now.records (command_of c.args.cmd.now) c.player_in-me.result c.as_slice.result.now c.act.result c.player_in-me.ensures.player
    (c.as_slice.ensures ∙ c.list_others.ensures.others ∙ ap (λ n. others_of (world_of c.args.world.now.records) n) c.from.ensures) c.act.ensures
