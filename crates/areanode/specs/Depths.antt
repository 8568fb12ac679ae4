-- What the depth of a tree says of its numbers of leaves and nodes.
use Rattle.std.specs.Prelude.{◌≡◌, ℕ, zero, suc, ◌+◌, ◌-◌, ◌*◌, ◌^◌, ◌≤◌}
use Rattle.std.proofs.Common.{refl, arith}
use Rattle.areanode.specs.declared.sizes.TheConstants.{MOST_LEAVES, MOST_NODES}
use Rattle.areanode.specs.Trees.{IsTreeDepth}

-- how many leaves and nodes a tree of this depth has
pub record HasSizes (depth : ℕ) : Type 0 where
  pub some : 8 ≤ 2 ^ depth
  pub leaves : 2 ^ depth ≤ MOST_LEAVES
  pub double : 2 ^ (depth + 1) ≡ 2 * 2 ^ depth
  pub nodes : 2 ^ (depth + 1) - 1 ≤ MOST_NODES

-- they are at most those of the greatest depth
pub sizes_of_depth : (depth : ℕ) → IsTreeDepth depth → HasSizes depth
sizes_of_depth zero is = absurd (omega (arith, is.least))
sizes_of_depth (suc zero) is = absurd (omega (arith, is.least))
sizes_of_depth (suc (suc zero)) is = absurd (omega (arith, is.least))
sizes_of_depth (suc (suc (suc zero))) is = record { some = omega arith; leaves = omega arith; double = refl; nodes = omega arith }
sizes_of_depth (suc (suc (suc (suc zero)))) is = record { some = omega arith; leaves = omega arith; double = refl; nodes = omega arith }
sizes_of_depth (suc (suc (suc (suc (suc zero))))) is = record { some = omega arith; leaves = omega arith; double = refl; nodes = omega arith }
sizes_of_depth (suc (suc (suc (suc (suc (suc n)))))) is = absurd (omega (arith, is.most))
