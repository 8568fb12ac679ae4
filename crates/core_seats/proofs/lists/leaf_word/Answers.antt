use Rattle.std.proofs.Common.{arith}
use Rattle.core_seats.proofs.ReadLists.{leaf_bits, leaf_small}
use Rattle.core_seats.proofs.lists.leaf_word.Goals as goal

pub loop-node-preserved : goal.loop-node-preserved
loop-node-preserved c = record {
  word = leaf_bits c.args.first_leaf c.args.nodes.now c.loop-node.node-index c.loop-node.word c.saturating_sub.result (omega arith) c.requires.nodes c.saturating_sub.ensures c.loop-node.invariant.word;
  small = leaf_small c.args.first_leaf c.args.nodes.now c.loop-node.node-index c.loop-node.word c.saturating_sub.result (omega arith) c.requires.nodes c.saturating_sub.ensures c.loop-node.invariant.small;
}

pub overflow_add-word : goal.overflow_add-word
overflow_add-word c =
    let small = leaf_small c.args.first_leaf c.args.nodes.now c.loop-node.node-index c.loop-node.word c.saturating_sub.result (omega arith) c.requires.nodes c.saturating_sub.ensures c.loop-node.invariant.small in
    omega (arith, small)
