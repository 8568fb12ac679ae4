use Rattle.std.proofs.Common.{◌≡◌}
use Rattle.areanode.specs.Words.{word_of}
use Rattle.areanode.specs.Trees.{nodes_in}
use Rattle.areanode.proofs.WaysUp.{is_over_some}
use Rattle.areanode.proofs.ancestors.visited_nodes.Given as goal

abbrev pub invariant-loop-leaf : goal.invariant-loop-leaf
invariant-loop-leaf l = l.nodes ≡ word_of (nodes_in l.depth) (is_over_some l.depth l.leaves l.leaf)
