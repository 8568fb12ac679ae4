use Rattle.std.proofs.Common.{map}
use Rattle.entity_recs.specs.Commands.{command_of}
use Rattle.move_phase.proofs.Sharing.{ready_if_taken}
use Rattle.move_phase.proofs.workers.share.Goals as goal

pub returns-clause-ready : goal.returns-clause-ready
returns-clause-ready g c =
    ready_if_taken g.A.Action.meaning c.args.action.now c.args.world.now c.args.workers c.from.result (map command_of c.args.moves.now) c.rooms-room.result
    c.start.result c.from.ensures c.rooms-room.ensures.room c.requires.live c.start.ensures.shared c.start.ensures.passes c.start.ensures.own
