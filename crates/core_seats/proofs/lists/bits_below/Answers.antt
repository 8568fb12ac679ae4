use Rattle.std.proofs.Common.{ℕ, List, [], ◌∷◌, ◌++◌, ap, sym, ◌∙◌, arith}
use Rattle.areanode.specs.Words.{has_bit}
use Rattle.core_seats.proofs.Ranges.{kept_more, kept_same}
use Rattle.core_seats.proofs.lists.bits_below.Goals as goal
use Rattle.core_seats.proofs.lists.bits_below.Goals.{then-is_set, else-is_set}

pub loop-i-preserved : goal.loop-i-preserved
loop-i-preserved c =
    elim c.if-is_set.branch [
      | then-is_set w ↦ rw w.numbers-is (record {
        numbers = w.push.ensures.items ∙ ap (λ (xs : List ℕ). xs ++ c.loop-i.i ∷ []) c.loop-i.invariant.numbers ∙ sym (kept_more (has_bit c.args.word) c.loop-i.i (sym c.is_set.ensures ∙ w.if-is_set.true));
        few = omega (arith, w.push.ensures.len);
      })
      | else-is_set w ↦ rw w.numbers-is (record {
        numbers = c.loop-i.invariant.numbers ∙ sym (kept_same (has_bit c.args.word) c.loop-i.i (sym c.is_set.ensures ∙ w.if-is_set.false));
        few = omega arith;
      })
    ]
