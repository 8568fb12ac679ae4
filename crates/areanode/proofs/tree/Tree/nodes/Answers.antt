use Rattle.std.proofs.Common.{◌-◌, ◌∙◌, ap, arith}
use Rattle.areanode.specs.Trees.{TreeView, nodes_in}
use Rattle.areanode.specs.Depths.{sizes_of_depth}
use Rattle.areanode.proofs.Shifts.{nodes_shifted}
use Rattle.areanode.proofs.tree.Tree.nodes.Goals as goal

pub overflow_sub-result : goal.overflow_sub-result
overflow_sub-result c =
    let sizes = sizes_of_depth _ c.self.invariant.is_depth in
    omega (arith, nodes_shifted _ c.self.invariant.is_depth, sizes.some, sizes.double)

pub returns-clause-value : goal.returns-clause-value
returns-clause-value c =
    ap (λ n. n - 1) (nodes_shifted _ c.self.invariant.is_depth) ∙ ap (λ (t : TreeView). nodes_in t.depth) c.self.view_is
