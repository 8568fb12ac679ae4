use Rattle.std.proofs.Common.{◌+◌, ◌^◌, ◌<◌, slice_index, rules, arith, ◌∙◌, length-set}
use Rattle.move_phase.proofs.RoomCounts.{room_small, room_next}
use Rattle.move_phase.proofs.rooms.rooms.Goals as goal

pub overflow_add-room : goal.overflow_add-room
overflow_add-room c =
    let small = room_small c.args.workers c.args.moves.now c.loop-cmd.cmd-index c.cmd-item.result c.loop-cmd-test.true c.cmd-item.is c.loop-cmd.room c.loop-cmd.invariant.1 c.from-worker.result c.from-worker.ensures c.requires.workers.0 in
    let below : slice_index c.loop-cmd.room c.from-worker.result + 1 < 2 ^ 32 = omega (arith, small, c.loop-cmd-test.true, c.requires.few) in
    search rules

pub loop-cmd-preserved : goal.loop-cmd-preserved
loop-cmd-preserved c = (
  length-set c.loop-cmd.room c.from-worker.result (slice_index c.loop-cmd.room c.from-worker.result + 1) ∙ c.loop-cmd.invariant.0,
  room_next c.args.workers c.args.moves.now c.loop-cmd.cmd-index c.cmd-item.result c.loop-cmd-test.true c.cmd-item.is c.loop-cmd.room
      c.loop-cmd.invariant.1 c.from-worker.result c.from-worker.ensures c.requires.workers.0,
)
