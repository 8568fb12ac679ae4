use Rattle.std.proofs.Common.{arith}
use Rattle.areanode.specs.Depths.{sizes_of_depth}
use Rattle.region_locks.proofs.leaves.count_leaves.Goals as goal

pub returns-clause-value : goal.returns-clause-value
returns-clause-value c =
    let few = (sizes_of_depth c.args.depth c.requires).leaves in
    omega (arith, few)

pub returns-clause-few : goal.returns-clause-few
returns-clause-few c =
    let few = (sizes_of_depth c.args.depth c.requires).leaves in
    omega (arith, few)
