use Rattle.std.proofs.Common.{sym}
use Rattle.entity_recs.specs.Commands.{command_of}
use Rattle.arena_actions.proofs.Shooting.{effect_is_on, lists_match, unshot_is, shot_is}
use Rattle.arena_actions.proofs.shot_action.ShotAction.shoot.Goals as goal

pub shot_range-requires : goal.shot_range-requires
shot_range-requires c =
    (effect_is_on c.args.self.now.arena.map c.args.me.now c.args.near.now (command_of c.args.cmd.now) c.act-effect.result c.act-effect.ensures c.args.self.now.arena.is_map c.requires.player).is_record.origin

pub fire_within-requires-clause-record : goal.fire_within-requires-clause-record
fire_within-requires-clause-record c =
    (effect_is_on c.args.self.now.arena.map c.args.me.now c.args.near.now (command_of c.args.cmd.now) c.act-effect.result c.act-effect.ensures c.args.self.now.arena.is_map c.requires.player).is_record

pub fire_within-requires-clause-lists : goal.fire_within-requires-clause-lists
fire_within-requires-clause-lists c = lists_match c.args.self.now.arena.map c.args.me.now c.args.near.now (command_of c.args.cmd.now) c.act-effect.result c.act-effect.ensures

pub returns-in-Some : goal.returns-in-Some
returns-in-Some c =
    shot_is c.args.self.now.arena.map c.args.me.now c.args.near.now (command_of c.args.cmd.now) c.act-effect.result c.fire_within.new.effect c.act-effect.ensures c.fire_within.ensures.origin
    c.fire_within.ensures.walk

pub returns-in_default : goal.returns-in_default
returns-in_default c =
    unshot_is c.args.self.now.arena.map c.args.me.now c.args.near.now (command_of c.args.cmd.now) c.act-effect.result c.act-effect.ensures (sym c.in_default.ensures)
