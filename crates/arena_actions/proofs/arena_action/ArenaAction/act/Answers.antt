use Rattle.std.proofs.Common.{◌≡◌, List, sym, subst}
use Rattle.entity_recs.specs.declared.rec.Rec.{Rec}
use Rattle.entity_recs.specs.Commands.{Command, command_of}
use Rattle.arena_map.specs.Maps.{MapView, IsMap}
use Rattle.trigger_rules.specs.Laws.{IsPlayerOn}
use Rattle.arena_outcomes.specs.Outcomes.{moved_among}
use Rattle.arena_actions.proofs.Effects.{effect_by_parts}
use Rattle.arena_outcomes.proofs.Lawful.Players.{moved_stays_on}
use Rattle.arena_actions.proofs.arena_action.ArenaAction.act.Goals as goal

-- the player after its move is on the map
on_map : (map : MapView) (me moved : Rec) (near : List Rec) (c : Command) → IsMap map → IsPlayerOn map me → moved ≡ moved_among map me near c → IsPlayerOn map moved
on_map map me moved near c is_map is moved_is = subst (IsPlayerOn map) (sym moved_is) (moved_stays_on map me near c is_map is)

pub touch_all-requires-clause-player : goal.touch_all-requires-clause-player
touch_all-requires-clause-player c =
    (on_map c.args.self.now.map c.args.me.now c.moved_player-after.result c.args.near.now (command_of c.args.cmd.now) c.args.self.now.is_map c.requires.player c.moved_player-after.ensures).kind

pub touch_all-requires-clause-record : goal.touch_all-requires-clause-record
touch_all-requires-clause-record c =
    (on_map c.args.self.now.map c.args.me.now c.moved_player-after.result c.args.near.now (command_of c.args.cmd.now) c.args.self.now.is_map c.requires.player c.moved_player-after.ensures).is_record

pub returns : goal.returns
returns c =
    effect_by_parts c.args.self.now.map c.args.me.now c.args.near.now (command_of c.args.cmd.now) c.moved_player-after.result c.touch_all.new.me c.touch_all.new.out c.touch_all.new.got
    c.moved_player-after.ensures c.touch_all.ensures.player c.touch_all.ensures.states c.touch_all.ensures.ids
