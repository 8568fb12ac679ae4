use Rattle.std.proofs.Common.{◌==◌, ◌||◌, ℕ, List, [], ◌∷◌, ◌++◌, ap, sym, ◌∙◌, arith}
use Rattle.core_seats.proofs.Ranges.{kept_more, kept_same}
use Rattle.core_seats.proofs.lists.inner_among.Goals as goal
use Rattle.core_seats.proofs.lists.inner_among.Goals.{then-is_either, else-is_either}

pub loop-node-preserved : goal.loop-node-preserved
loop-node-preserved c =
    elim c.if-is_either.branch [
      | then-is_either w ↦ rw w.nodes-is (record {
        nodes = w.push.ensures.items ∙ ap (λ (xs : List ℕ). xs ++ c.loop-node.node ∷ []) c.loop-node.invariant.nodes ∙ sym (kept_more (λ node. (node == c.args.a) || (node == c.args.b)) c.loop-node.node (sym c.is_either.ensures ∙ w.if-is_either.true));
        few = omega (arith, w.push.ensures.len);
      })
      | else-is_either w ↦ rw w.nodes-is (record {
        nodes = c.loop-node.invariant.nodes ∙ sym (kept_same (λ node. (node == c.args.a) || (node == c.args.b)) c.loop-node.node (sym c.is_either.ensures ∙ w.if-is_either.false));
        few = omega arith;
      })
    ]
