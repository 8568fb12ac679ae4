use Rattle.std.proofs.Common.{◌≡◌, ℕ, ◌+◌, ◌≤◌, length, map}
use Rattle.std.specs.Prelude.{filter}
use Rattle.std.specs.List.{range_with_len}
use Rattle.areanode.specs.Words.{has_bit}
use Rattle.core_seats.proofs.lists.leaf_nodes.Given as goal

abbrev pub invariant-loop-leaf : goal.invariant-loop-leaf
invariant-loop-leaf l = record { nodes : l.nodes.items ≡ map (λ (leaf : ℕ). l.first_leaf + leaf) (filter (has_bit l.leaves) (range_with_len 0 l.leaf)); few : length l.nodes.items ≤ l.leaf }
