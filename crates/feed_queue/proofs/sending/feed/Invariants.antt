use Rattle.std.proofs.Common.{◌≡◌, ◌≤◌}
use Rattle.crossbeam_queue.specs.Passes.{view, IsPassOf}
use Rattle.feed_queue.specs.Hands.{feeder_hand}
use Rattle.feed_queue.specs.Orders.{places_below}
use Rattle.feed_queue.proofs.sending.feed.Given as goal

-- the feeder has sent its places below this one
abbrev pub invariant-loop-place : goal.invariant-loop-place
invariant-loop-place g l = IsPassOf l.line l.pass × (view l.pass ≡ feeder_hand l.feeder (places_below g.N.Ported.ports l.feeder l.place)) × (l.sent ≤ l.place)
