use Rattle.std.proofs.Common.{arith}
use Rattle.areanode.specs.Depths.{sizes_of_depth}
use Rattle.areanode.proofs.WaysUp.{climb_start, climb_more, path_start, path_more}
use Rattle.areanode.proofs.ancestors.path_to.Goals as goal

pub overflow_shl-path : goal.overflow_shl-path
overflow_shl-path c = omega (arith, c.requires.node, (sizes_of_depth c.args.depth c.requires.depth).nodes)

pub overflow_shl-path-in-loop : goal.overflow_shl-path-in-loop
overflow_shl-path-in-loop c =
    omega (arith, c.loop.invariant.below, c.saturating_sub-node.ensures, (sizes_of_depth c.args.depth c.requires.depth).nodes)

pub loop-init : goal.loop-init
loop-init c =
    let sizes = sizes_of_depth c.args.depth c.requires.depth in
    record { node = climb_start c.args.start; path = path_start _ c.args.start sizes.nodes c.requires.node; below = c.requires.node }

pub loop-preserved : goal.loop-preserved
loop-preserved c =
    let sizes = sizes_of_depth c.args.depth c.requires.depth in
    let node = climb_more c.loop.counter c.args.start _ _ c.loop.invariant.node c.saturating_sub-node.ensures in
    record { node = node; path = path_more _ c.loop.counter c.args.start _ _ sizes.nodes (omega arith) c.loop.invariant.path node; below = omega arith }
