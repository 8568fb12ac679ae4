use Rattle.player_move.specs.Intents.{intent_of}
use Rattle.player_move.proofs.WholeMoves.{room_of_record, body_is_box, origin_is_near, move_by_steps}
use Rattle.player_move.proofs.moving.move_player.Goals as goal

pub walk-walk-requires-clause-room : goal.walk-walk-requires-clause-room
walk-walk-requires-clause-room c =
    room_of_record c.args.me.now c.body_box-body.result c.requires.record c.body_box-body.ensures

pub returns-clause-value : goal.returns-clause-value
returns-clause-value c =
    move_by_steps c.args.me.now (intent_of c.args.cmd.now) _ _ _ _ _ _ _ c.body_box-body.ensures c.on_ground-ground.ensures c.velocity_after-vel.ensures.value c.walks.ensures c.walk-walk.ensures.value c.add.ensures

pub returns-clause-origin : goal.returns-clause-origin
returns-clause-origin c =
    origin_is_near c.args.me.now c.add.result c.walk-walk.result.shift c.requires.record c.add.ensures c.walk-walk.ensures.shift

pub returns-clause-is_box : goal.returns-clause-is_box
returns-clause-is_box c =
    body_is_box c.args.me.now c.add.result c.walk-walk.result.shift c.requires.record c.add.ensures c.walk-walk.ensures.shift
