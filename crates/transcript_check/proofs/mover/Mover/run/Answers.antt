use Rattle.std.proofs.Common.{ap, ◌∙◌}
use Rattle.entity_recs.specs.Commands.{command_of}
use Rattle.arena_actions.specs.MapActions.{map_in}
use Rattle.arena_actions.proofs.OfItsMap.{keeps_rules}
use Rattle.plain_server.specs.Moving.{with_new_states}
use Rattle.plain_server.proofs.Players.{live_record}
use Rattle.transcript_check.proofs.Moving.{after-move, still-there, records-are}
use Rattle.transcript_check.proofs.mover.Mover.run.Goals as goal

pub relink-requires-clause-record : goal.relink-requires-clause-record
relink-requires-clause-record c =
    let found = live_record c.args.world.now.records c.args.cmd.now.slot c.requires.live.live in
    (after-move (map_in c.args.self.now.action) c.args.world.now.records (command_of c.args.cmd.now) found.r c.effect-states.result (keeps_rules c.args.self.now.action) c.requires.valid c.requires.live.slot found.at
    c.effect-states.ensures.effect).is_record

pub relink-requires-clause-live : goal.relink-requires-clause-live
relink-requires-clause-live c =
    let found = live_record c.args.world.now.records c.args.cmd.now.slot c.requires.live.live in
    let after = after-move (map_in c.args.self.now.action) c.args.world.now.records (command_of c.args.cmd.now) found.r c.effect-states.result (keeps_rules c.args.self.now.action) c.requires.valid c.requires.live.slot found.at
    c.effect-states.ensures.effect in
    still-there (map_in c.args.self.now.action) c.args.world.now.records c.put_states.new.world.records (command_of c.args.cmd.now) c.effect-states.result c.effect-states.result.me.id
    (c.put_states.ensures ∙ ap (λ ss. with_new_states ss c.args.world.now.records) c.as_slice.ensures.value) after.own c.requires.live.live

pub returns-clause-records : goal.returns-clause-records
returns-clause-records c =
    let found = live_record c.args.world.now.records c.args.cmd.now.slot c.requires.live.live in
    let after = after-move (map_in c.args.self.now.action) c.args.world.now.records (command_of c.args.cmd.now) found.r c.effect-states.result (keeps_rules c.args.self.now.action) c.requires.valid c.requires.live.slot found.at
    c.effect-states.ensures.effect in
    records-are (map_in c.args.self.now.action) c.args.world.now.records (command_of c.args.cmd.now) c.effect-states.result c.put_states.new.world c.relink.new.self c.effect-states.ensures.effect
    (c.put_states.ensures ∙ ap (λ ss. with_new_states ss c.args.world.now.records) c.as_slice.ensures.value) after.own c.relink.ensures.world
