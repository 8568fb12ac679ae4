use Rattle.std.proofs.Common.{◌≡◌}
use Rattle.areanode.specs.Words.{word_of}
use Rattle.areanode.specs.Trees.{leaf_node}
use Rattle.core_steps.specs.Nodes.{has}
use Rattle.region_locks.proofs.leaves.leaf_bits.Given as goal

abbrev pub invariant-loop-leaf : goal.invariant-loop-leaf
invariant-loop-leaf l = l.word ≡ word_of l.leaf (λ leaf. has l.nodes (leaf_node l.depth leaf))
