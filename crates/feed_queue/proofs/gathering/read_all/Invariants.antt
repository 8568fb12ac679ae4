use Rattle.std.proofs.Common.{◌≡◌, Some, length}
use Rattle.crossbeam_queue.specs.Passes.{view, IsPassOf, IsSamePass}
use Rattle.feed_queue.specs.Hands.{hand}
use Rattle.feed_queue.specs.Orders.{places_below}
use Rattle.feed_queue.proofs.gathering.read_all.Given as goal

-- what was popped is in the list
abbrev pub invariant-loop : goal.invariant-loop
invariant-loop g l =
    let ports = g.N.Ported.ports in
    IsPassOf l.line l.pass × (view l.pass ≡ hand (Some (places_below ports 0 (length ports))) (Some (places_below ports 1 (length ports))) (Some l.order)) × (length l.order ≡ l.counter) × IsSamePass l.fn.pass l.pass
