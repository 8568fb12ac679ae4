use Rattle.std.proofs.Common.{◌≡◌, ◌++◌, length, drop}
use Rattle.packet_read.specs.Orders.{in_order}
use Rattle.playback.proofs.playback.move_in_order.Given as goal

-- the packets moved so far, and then those that are left, are all in order
abbrev pub invariant-loop-place : goal.invariant-loop-place
invariant-loop-place l =
    (l.moved.items ++ in_order (drop l.place-index l.order) l.arrivals ≡ in_order l.order l.fn.arrivals) × (length l.arrivals ≡ length l.fn.arrivals)
