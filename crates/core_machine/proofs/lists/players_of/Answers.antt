use Rattle.std.proofs.Common.{◌≡◌, ◌==◌, ◌&&◌, ℕ, List, [], ◌∷◌, ◌++◌, ap, sym, ◌∙◌, arith}
use Rattle.std.specs.Prelude.{not, filter}
use Rattle.std.specs.List.{range_with_len}
use Rattle.areanode.specs.Words.{has_bit}
use Rattle.core_seats.proofs.Ranges.{kept_more, kept_same}
use Rattle.core_machine.proofs.lists.players_of.Goals as goal
use Rattle.core_machine.proofs.lists.players_of.Goals.{then-is_other, else-is_other}

pub loop-slot-preserved : goal.loop-slot-preserved
loop-slot-preserved c =
    elim c.if-is_other.branch [
      | then-is_other w ↦ rw w.players-is (record {
        players = w.push.ensures.items ∙ ap (λ (xs : List ℕ). xs ++ c.loop-slot.slot ∷ []) c.loop-slot.invariant.players ∙ sym (kept_more (λ slot. has_bit c.args.word slot && not (slot == c.args.own)) c.loop-slot.slot (sym c.is_other.ensures ∙ w.if-is_other.true));
        few = omega (arith, w.push.ensures.len);
      })
      | else-is_other w ↦ rw w.players-is (record {
        players = c.loop-slot.invariant.players ∙ sym (kept_same (λ slot. has_bit c.args.word slot && not (slot == c.args.own)) c.loop-slot.slot (sym c.is_other.ensures ∙ w.if-is_other.false));
        few = omega arith;
      })
    ]

pub returns : goal.returns
returns c =
    let end : c.loop-slot.slot ≡ 64 = omega arith in
    c.loop-slot.invariant.players ∙ ap (λ (n : ℕ). filter (λ slot. has_bit c.args.word slot && not (slot == c.args.own)) (range_with_len 0 n)) end
