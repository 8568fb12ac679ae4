use Rattle.std.proofs.Common.{◌≡◌, ◌≤◌, ◌==◌, ◌||◌, length}
use Rattle.std.specs.Prelude.{filter}
use Rattle.std.specs.List.{range_with_len}
use Rattle.core_seats.proofs.lists.inner_among.Given as goal

abbrev pub invariant-loop-node : goal.invariant-loop-node
invariant-loop-node l = record { nodes : l.nodes.items ≡ filter (λ node. (node == l.a) || (node == l.b)) (range_with_len 0 l.node); few : length l.nodes.items ≤ l.node }
