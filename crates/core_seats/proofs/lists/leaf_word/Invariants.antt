use Rattle.std.proofs.Common.{◌≡◌, ◌≤◌, ◌*◌, ◌-◌, ◌^◌, ℕ, take, map}
use Rattle.areanode.specs.declared.sizes.TheConstants.{MOST_LEAVES}
use Rattle.core_steps.specs.Held.{bits_of_leaves}
use Rattle.core_seats.proofs.lists.leaf_word.Given as goal

abbrev pub invariant-loop-node : goal.invariant-loop-node
invariant-loop-node l = record { word : l.word ≡ bits_of_leaves (map (λ (n : ℕ). n - l.first_leaf) (take l.node-index l.nodes)); small : l.word ≤ 2 ^ MOST_LEAVES * l.node-index }
