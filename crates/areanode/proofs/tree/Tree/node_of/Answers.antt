use Rattle.std.proofs.Common.{ap, arith}
use Rattle.areanode.specs.Trees.{TreeView}
use Rattle.areanode.specs.Depths.{sizes_of_depth}
use Rattle.areanode.proofs.Nodes.{node_is_in_range}
use Rattle.areanode.proofs.WaysDown.{root_level, areas_are_cut, node_is}
use Rattle.areanode.proofs.tree.Tree.node_of.Goals as goal

pub node_from-requires : goal.node_from-requires
node_from-requires c =
    let cut = areas_are_cut _ _ _ c.self.invariant c.self.view_is in
    record { depth = cut.is_depth; level = root_level c.args.self.now _ (ap (λ (t : TreeView). t.depth) c.self.view_is) }

pub overflow_cast-result : goal.overflow_cast-result
overflow_cast-result c =
    let tree = c.args.self.now in
    let sizes = sizes_of_depth tree.depth (areas_are_cut _ _ _ c.self.invariant c.self.view_is).is_depth in
    let is = node_is tree _ _ c.args.abs.now _ c.self.invariant c.self.view_is c.node_from.ensures in
    omega (arith, is, node_is_in_range tree c.args.abs.now, sizes.nodes)

pub returns-clause-node : goal.returns-clause-node
returns-clause-node c = node_is _ _ _ c.args.abs.now _ c.self.invariant c.self.view_is c.node_from.ensures

pub returns-clause-in_range : goal.returns-clause-in_range
returns-clause-in_range c =
    let tree = c.args.self.now in
    let is = node_is tree _ _ c.args.abs.now _ c.self.invariant c.self.view_is c.node_from.ensures in
    omega (arith, is, node_is_in_range tree c.args.abs.now)

pub returns-clause-depth : goal.returns-clause-depth
returns-clause-depth c = (areas_are_cut _ _ _ c.self.invariant c.self.view_is).is_depth
