-- The code's shifts are the numbers of leaves and nodes.
use Rattle.std.proofs.Common.{◌≡◌, ℕ, ◌+◌, ◌-◌, ◌*◌, ◌%◌, ◌^◌, ◌<◌, arith}
use Rattle.std.proofs.lemmas.Nat.{one_shl}
use Rattle.areanode.specs.declared.sizes.TheConstants.{MOST_NODES}
use Rattle.areanode.specs.Trees.{IsTreeDepth, leaves_in}
use Rattle.areanode.specs.Depths.{sizes_of_depth}

-- the number of leaves, as a machine word
pub leaves_shifted : (depth : ℕ) → IsTreeDepth depth → 1 * 2 ^ depth % 18446744073709551616 ≡ leaves_in depth
leaves_shifted depth is = one_shl depth 64 (omega (arith, is.most))

-- the children of a node before the first leaf have places among the areas
pub children_fit : (depth node : ℕ) → IsTreeDepth depth → node < 1 * 2 ^ depth % 18446744073709551616 - 1
    → 2 * node + 2 < MOST_NODES
children_fit depth node is inner = omega (arith, inner, leaves_shifted depth is, (sizes_of_depth depth is).leaves)

-- one more than the number of nodes, as a byte
pub nodes_shifted : (depth : ℕ) → IsTreeDepth depth → 2 * 2 ^ depth % 256 ≡ 2 ^ (depth + 1)
nodes_shifted depth is = let sizes = sizes_of_depth depth is in omega (arith, sizes.double, sizes.leaves)
