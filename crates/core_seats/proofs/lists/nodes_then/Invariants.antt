use Rattle.std.proofs.Common.{◌≡◌, ◌++◌, take}
use Rattle.core_seats.proofs.lists.nodes_then.Given as goal

abbrev pub invariant-loop-node : goal.invariant-loop-node
invariant-loop-node l = l.nodes.items ≡ l.fn.front.items ++ take l.node-index l.node-items
