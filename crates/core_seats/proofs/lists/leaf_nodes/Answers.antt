use Rattle.std.proofs.Common.{◌+◌, ℕ, List, [], ◌∷◌, ◌++◌, map, ap, sym, ◌∙◌, arith}
use Rattle.areanode.specs.Words.{has_bit}
use Rattle.core_seats.proofs.Ranges.{kept_same, mapped_more}
use Rattle.core_seats.proofs.lists.leaf_nodes.Goals as goal
use Rattle.core_seats.proofs.lists.leaf_nodes.Goals.{then-is_set, else-is_set}

pub loop-leaf-preserved : goal.loop-leaf-preserved
loop-leaf-preserved c =
    let node : ℕ → ℕ = λ leaf. c.args.first_leaf + leaf in
    elim c.if-is_set.branch [
      | then-is_set w ↦ rw w.nodes-is (record {
        nodes = w.push.ensures.items ∙ ap (λ (xs : List ℕ). xs ++ node c.loop-leaf.leaf ∷ []) c.loop-leaf.invariant.nodes
            ∙ sym (mapped_more node (has_bit c.args.leaves) c.loop-leaf.leaf (sym c.is_set.ensures ∙ w.if-is_set.true));
        few = omega (arith, w.push.ensures.len);
      })
      | else-is_set w ↦ rw w.nodes-is (record {
        nodes = c.loop-leaf.invariant.nodes ∙ ap (map node) (sym (kept_same (has_bit c.args.leaves) c.loop-leaf.leaf (sym c.is_set.ensures ∙ w.if-is_set.false)));
        few = omega arith;
      })
    ]
