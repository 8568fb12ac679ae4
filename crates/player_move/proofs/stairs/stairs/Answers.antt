use Rattle.std.proofs.Common.{arith}
use Rattle.player_move.proofs.Rooms.{IsNear-plus, IsInRange-moved, Fits-near}
use Rattle.player_move.proofs.Reaching.{near_up, near_fall, near_down, near_along, room_above, room_there, IsNear-stairs}
use Rattle.player_move.proofs.Walking.{stairs_by_steps}
use Rattle.player_move.proofs.stairs.stairs.Goals as goal

pub shifted-above-requires : goal.shifted-above-requires
shifted-above-requires c =
    IsInRange-moved 2000000 4608 _ _ (omega arith) c.requires.room (near_up _ _ _ c.upwards-rise.ensures c.trace-steps.ensures.is_trace.within c.shift_at-up.ensures)

pub slide-along-requires-clause-in_range : goal.slide-along-requires-clause-in_range
slide-along-requires-clause-in_range c =
    room_above _ _ _ _ _ _ c.shifted-above.ensures (near_up _ _ _ c.upwards-rise.ensures c.trace-steps.ensures.is_trace.within c.shift_at-up.ensures) c.level.ensures c.requires.near c.requires.most c.requires.room

pub shifted-there-requires : goal.shifted-there-requires
shifted-there-requires c =
    IsInRange-moved 2000000 34608 _ _ (omega arith) c.requires.room (near_along _ _ _ _ _ c.upwards-rise.ensures c.trace-steps.ensures.is_trace.within c.shift_at-up.ensures c.add-shift.ensures c.slide-along.ensures.near)

pub trace-requires-clause-in_range : goal.trace-requires-clause-in_range
trace-requires-clause-in_range c =
    room_there _ _ _ _ c.shifted-there.ensures (near_along _ _ _ _ _ c.upwards-rise.ensures c.trace-steps.ensures.is_trace.within c.shift_at-up.ensures c.add-shift.ensures c.slide-along.ensures.near) (near_fall _ _ _ c.upwards-rise.ensures c.trace-steps.ensures.is_trace.within c.downwards-fall.ensures) c.requires.room

pub add-requires : goal.add-requires
add-requires c =
    let fall = near_fall _ _ _ c.upwards-rise.ensures c.trace-steps.ensures.is_trace.within c.downwards-fall.ensures in
    Fits-near 39216 _ (omega arith) (IsNear-plus 34608 4608 39216 _ _ (omega arith) (near_along _ _ _ _ _ c.upwards-rise.ensures c.trace-steps.ensures.is_trace.within c.shift_at-up.ensures c.add-shift.ensures c.slide-along.ensures.near) (near_down _ _ _ fall c.trace.ensures.is_trace.within c.shift_at-down.ensures))

pub returns-clause-value : goal.returns-clause-value
returns-clause-value c =
    stairs_by_steps _ _ _ _ _ _ _ _ _ _ _ _ _ _ _ _ _ c.upwards-rise.ensures c.trace-steps.ensures.value c.shift_at-up.ensures c.shifted-above.ensures c.level.ensures c.slide-along.ensures.value c.add-shift.ensures c.shifted-there.ensures c.downwards-fall.ensures c.trace.ensures.value c.shift_at-down.ensures c.add.ensures c.level-2.ensures

pub returns-clause-shift : goal.returns-clause-shift
returns-clause-shift c =
    IsNear-stairs _ _ _ _ _ (returns-clause-value c) c.requires.near c.requires.most
