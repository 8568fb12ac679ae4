use Rattle.std.proofs.Common.{◌≡◌, ℕ, ◌+◌, ◌*◌, ◌<◌, ◌≤◌, length}
use Rattle.areanode.specs.declared.sizes.TheConstants.{MOST_NODES}
use Rattle.areanode.specs.Areas.{area_at, HasParts}
use Rattle.areanode.proofs.tree.Tree.new.Given as goal

abbrev pub invariant-loop-node : goal.invariant-loop-node
invariant-loop-node l = record {
  number : length l.areas ≡ MOST_NODES;
  root : area_at l.areas 0 ≡ l.bounds;
  parts : (node : ℕ) → node < l.node → HasParts l.areas node;
  beyond : (node : ℕ) → 2 * l.node + 1 ≤ node → node < MOST_NODES → area_at l.areas node ≡ l.bounds;
}
