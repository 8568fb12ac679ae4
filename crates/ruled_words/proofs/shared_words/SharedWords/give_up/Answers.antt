use Rattle.std.proofs.Common.{◌+◌, [], ◌∷◌, length, drop, slice_index_or, refl, arith, ◌∙◌, ap}
use Rattle.core_steps.specs.Steps.{is_taking}
use Rattle.ruled_words.specs.Passes.{PassView, fixed_in}
use Rattle.ruled_words.proofs.GivingUp.{left_all, left_next, left_node, left_leaf, left_start, left_own, none_held, nodes_there, leaves_there, nodes_done, leaves_done}
use Rattle.ruled_words.proofs.shared_words.SharedWords.give_up.Goals as goal

pub loop-node-init : goal.loop-node-init
loop-node-init g c = left_all (fixed_in g.A.Action.meaning c.args.self.now) (length c.args.self.now.rooms) c.args.self.now.table c.args.hand.now c.args.nodes.now c.args.leaves.now c.requires.own c.requires.nodes c.requires.leaves

pub yield_node-requires-clause-own : goal.yield_node-requires-clause-own
yield_node-requires-clause-own g c κs within = c.loop-node.invariant.own

pub yield_node-requires-clause-quits : goal.yield_node-requires-clause-quits
yield_node-requires-clause-quits g c κs within = left_own (fixed_in g.A.Action.meaning c.args.self.now) (length c.args.self.now.rooms) c.args.self.now.table c.args.hand.now c.loop-node.hand c.loop-node.begins _ _ c.loop-node.invariant c.requires.at_take

pub yield_node-requires-clause-next : goal.yield_node-requires-clause-next
yield_node-requires-clause-next g c κs within =
    left_next (fixed_in g.A.Action.meaning c.args.self.now) (length c.args.self.now.rooms) c.args.self.now.table c.args.hand.now c.loop-node.hand c.loop-node.begins (slice_index_or c.args.nodes.now c.loop-node.node-index 0 ∷ drop (c.loop-node.node-index + 1) c.args.nodes.now) c.args.leaves.now (slice_index_or c.args.nodes.now c.loop-node.node-index 0) refl
    (nodes_there (fixed_in g.A.Action.meaning c.args.self.now) (length c.args.self.now.rooms) c.args.self.now.table c.args.hand.now c.loop-node.hand c.loop-node.begins c.args.nodes.now c.args.leaves.now c.loop-node.node-index c.loop-node-test.true c.loop-node.invariant)

pub loop-node-preserved : goal.loop-node-preserved
loop-node-preserved g c =
    left_node (fixed_in g.A.Action.meaning c.args.self.now) (length c.args.self.now.rooms) c.args.self.now.table c.args.hand.now c.loop-node.hand c.loop-node.begins (slice_index_or c.args.nodes.now c.loop-node.node-index 0) (drop (c.loop-node.node-index + 1) c.args.nodes.now) c.args.leaves.now
    (nodes_there (fixed_in g.A.Action.meaning c.args.self.now) (length c.args.self.now.rooms) c.args.self.now.table c.args.hand.now c.loop-node.hand c.loop-node.begins c.args.nodes.now c.args.leaves.now c.loop-node.node-index c.loop-node-test.true c.loop-node.invariant) c.yield_node.new.hand c.yield_node.ensures.own c.yield_node.ensures.pass

pub loop-leaf-init : goal.loop-leaf-init
loop-leaf-init g c = nodes_done (fixed_in g.A.Action.meaning c.args.self.now) (length c.args.self.now.rooms) c.args.self.now.table c.args.hand.now c.loop-node.hand c.loop-node.begins c.args.nodes.now c.args.leaves.now c.loop-node.node-index (omega (arith, c.loop-node-test.false)) c.loop-node.invariant

pub yield_node-requires-in-loop-leaf-clause-own : goal.yield_node-requires-in-loop-leaf-clause-own
yield_node-requires-in-loop-leaf-clause-own g c κs within = c.loop-leaf.invariant.own

pub yield_node-requires-in-loop-leaf-clause-quits : goal.yield_node-requires-in-loop-leaf-clause-quits
yield_node-requires-in-loop-leaf-clause-quits g c κs within = left_own (fixed_in g.A.Action.meaning c.args.self.now) (length c.args.self.now.rooms) c.args.self.now.table c.args.hand.now c.loop-leaf.hand c.loop-leaf.begins _ _ c.loop-leaf.invariant c.requires.at_take

pub yield_node-requires-in-loop-leaf-clause-next : goal.yield_node-requires-in-loop-leaf-clause-next
yield_node-requires-in-loop-leaf-clause-next g c κs within =
    left_next (fixed_in g.A.Action.meaning c.args.self.now) (length c.args.self.now.rooms) c.args.self.now.table c.args.hand.now c.loop-leaf.hand c.loop-leaf.begins [] (slice_index_or c.args.leaves.now c.loop-leaf.leaf-index 0 ∷ drop (c.loop-leaf.leaf-index + 1) c.args.leaves.now) (slice_index_or c.args.leaves.now c.loop-leaf.leaf-index 0) refl
    (leaves_there (fixed_in g.A.Action.meaning c.args.self.now) (length c.args.self.now.rooms) c.args.self.now.table c.args.hand.now c.loop-leaf.hand c.loop-leaf.begins [] c.args.leaves.now c.loop-leaf.leaf-index c.loop-leaf-test.true c.loop-leaf.invariant)

pub loop-leaf-preserved : goal.loop-leaf-preserved
loop-leaf-preserved g c =
    left_leaf (fixed_in g.A.Action.meaning c.args.self.now) (length c.args.self.now.rooms) c.args.self.now.table c.args.hand.now c.loop-leaf.hand c.loop-leaf.begins (slice_index_or c.args.leaves.now c.loop-leaf.leaf-index 0) (drop (c.loop-leaf.leaf-index + 1) c.args.leaves.now)
    (leaves_there (fixed_in g.A.Action.meaning c.args.self.now) (length c.args.self.now.rooms) c.args.self.now.table c.args.hand.now c.loop-leaf.hand c.loop-leaf.begins [] c.args.leaves.now c.loop-leaf.leaf-index c.loop-leaf-test.true c.loop-leaf.invariant) c.yield_node-in-loop-leaf.new.hand c.yield_node-in-loop-leaf.ensures.own c.yield_node-in-loop-leaf.ensures.pass

pub yield_nothing-requires-clause-own : goal.yield_nothing-requires-clause-own
yield_nothing-requires-clause-own g c κs within = c.loop-leaf.invariant.own

pub yield_nothing-requires-clause-at_take : goal.yield_nothing-requires-clause-at_take
yield_nothing-requires-clause-at_take g c κs within = ap (λ (q : PassView). is_taking q.view.point) (left_start (fixed_in g.A.Action.meaning c.args.self.now) (length c.args.self.now.rooms) c.args.self.now.table c.args.hand.now c.loop-leaf.hand c.loop-leaf.begins _ _ c.loop-leaf.invariant c.if-begins.true) ∙ c.requires.at_take

pub yield_nothing-requires-clause-none : goal.yield_nothing-requires-clause-none
yield_nothing-requires-clause-none g c κs within =
    none_held (fixed_in g.A.Action.meaning c.args.self.now) (length c.args.self.now.rooms) c.args.self.now.table c.args.hand.now c.loop-leaf.hand c.loop-leaf.begins (leaves_done (fixed_in g.A.Action.meaning c.args.self.now) (length c.args.self.now.rooms) c.args.self.now.table c.args.hand.now c.loop-leaf.hand c.loop-leaf.begins [] c.args.leaves.now c.loop-leaf.leaf-index (omega (arith, c.loop-leaf-test.false)) c.loop-leaf.invariant) c.if-begins.true
