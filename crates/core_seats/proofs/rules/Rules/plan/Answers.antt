use Rattle.std.proofs.Common.{◌++◌, ℕ, List, ap, ◌∙◌}
use Rattle.std.specs.Prelude.{filter}
use Rattle.std.specs.List.{range_with_len}
use Rattle.areanode.specs.Words.{has_bit}
use Rattle.core_steps.specs.Nodes.{leaf_nodes}
use Rattle.core_seats.specs.Shown.{fixed_of}
use Rattle.core_seats.proofs.Fixing.{leaf_nodes_are, inner_visited_are}
use Rattle.core_seats.proofs.rules.Rules.plan.Goals as goal

pub returns : goal.returns
returns g c =
    let F = fixed_of g.A.Action.meaning (record { action = c.self.inside.action.now; tree = c.self.inside.tree; start = c.self.inside.start.items }) in
    let leaves = leaf_nodes_are F c.self.inside.first_leaf c.args.region.now c.from.result c.leaf_nodes-plan.result.items c.self.invariant.depth c.self.invariant.leaf_is
    (c.from.ensures ∙ c.leaves_of-leaves.ensures.leaves) c.leaf_nodes-plan.ensures.nodes in
    let inner = inner_visited_are F c.args.region.now c.leaves_of-leaves.result c.visited_nodes.result c.bits_below-inner.result.items
    c.leaves_of-leaves.ensures.leaves c.visited_nodes.ensures.nodes
    (c.bits_below-inner.ensures.numbers ∙ ap (λ (n : ℕ). filter (has_bit c.visited_nodes.result) (range_with_len 0 n)) c.self.invariant.leaf_is) in
    rw (← c.self.view_is)
    (c.nodes_then.ensures ∙ ap (λ (ns : List ℕ). ns ++ c.bits_below-inner.result.items) leaves ∙ ap (λ (ns : List ℕ). leaf_nodes F c.args.region.now ++ ns) inner)
