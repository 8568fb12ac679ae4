-- Items that return.
use Rattle.std.proofs.Common.{◌≡◌, ◌≢◌, ℕ, ◌+◌, ◌<◌, ◌≤◌, ◌==◌, true, not, nat_le, cond, List, length, Option, Some, None, refl, sym, ap, ◌∙◌, arith}
use Rattle.std.specs.Option.{option_map}
use Rattle.std.proofs.lemmas.Bool.Decides.{nat_tests}
use Rattle.std.proofs.lemmas.List.{get_or_past}
use Rattle.std.proofs.lemmas.Option.{none-some, same_Some}
use Rattle.entity_recs.specs.declared.rec.Rec.{Rec}
use Rattle.entity_recs.specs.Records.{IsRecord, with_state}
use Rattle.entity_recs.specs.Kinds.{is_item}
use Rattle.arena_map.proofs.Boxes.{three_parts}
use Rattle.world_tree.specs.Live.{record_at}
use Rattle.world_tree.specs.Worlds.{WorldView}
use Rattle.world_physics.specs.Returns.{is_due, record_after_returns, changed_at}
use Rattle.world_physics.proofs.Changes.{IsChangedBelow, at-place, changed-same}

-- the bounds of a record don't look at its state
pub record_in_any_state : (r : Rec) (state : ℕ) → IsRecord r → IsRecord (with_state r state)
record_in_any_state r state is =
    record { id = is.id; origin = is.origin; shape = is.shape; vel = is.vel; flags = is.flags; ammo = is.ammo; carry = is.carry }

-- an item that is due returns
pub due-returned : (frame : ℕ) (r back : Rec) → is_due frame r ≡ true → back ≡ with_state r 0 → back ≡ record_after_returns frame r
due-returned frame r back due is = is ∙ sym (ap (λ b. cond b (with_state r 0) r) due)

-- past the places nothing is live
pub none_past : (records : List (Option Rec)) (k : ℕ) (r : Rec) → length records ≤ k → record_at records k ≡ Some r → ⊥
none_past records k r past at = none-some r (sym (get_or_past records k None past) ∙ at)

-- ---- where nothing changes

zero_not : (state : ℕ) → not (state == 0) ≡ true → state ≢ 0
zero_not state h same = let zero_there : (state == 0) ≡ true = grind (arith, nat_tests) in cc

-- an item that is due changes
pub due_changes : (frame : ℕ) (r : Rec) → is_due frame r ≡ true → record_after_returns frame r ≢ r
due_changes frame r due same =
    let parts = three_parts (is_item r.kind) (not (r.state == 0)) (nat_le r.state frame) due in
    let back : with_state r 0 ≡ r = sym (ap (λ b. cond b (with_state r 0) r) due) ∙ same in
    zero_not r.state parts.1 (sym (ap (λ (s : Rec). s.state) back))

-- so the records do, where it is put back
pub due_moves : (frame : ℕ) (records new : List (Option Rec)) (id : ℕ) (r : Rec) → record_at records id ≡ Some r → is_due frame r ≡ true
    → new ≡ changed_at (record_after_returns frame) records id → new ≡ records → ⊥
due_moves frame records new id r at due made still =
    let here : record_at new id ≡ Some (record_after_returns frame r) =
    ap (λ (rs : List (Option Rec)). record_at rs id) made ∙ at-place records id (record_after_returns frame) ∙ ap (option_map (record_after_returns frame)) at in
    due_changes frame r due (same_Some (record_after_returns frame r) r (sym here ∙ ap (λ (rs : List (Option Rec)). record_at rs id) still ∙ at))

-- the world is as it was, where the records below an id don't change
pub record IsStillBelow (f : Rec → Rec) (id : ℕ) (old new : WorldView) : Type 0 where
  pub stays : ((k : ℕ) (r : Rec) → k < id → record_at old.records k ≡ Some r → f r ≡ r) → new ≡ old

pub still_none : (f : Rec → Rec) (w : WorldView) → IsStillBelow f 0 w w
still_none f w = record { stays = λ h. refl }

-- one record more
pub still_more : (f : Rec → Rec) (id next : ℕ) (old w new : WorldView) → next ≡ id + 1 → IsChangedBelow f id old.records w.records → IsStillBelow f id old w
    → new.records ≡ changed_at f w.records id → (new.records ≡ w.records → new ≡ w) → IsStillBelow f next old new
still_more f id next old w new next_is changed still made same = record {
  stays = λ h.
      let here : option_map f (record_at old.records id) ≡ record_at old.records id = place h (record_at old.records id) refl in
      let there : option_map f (record_at w.records id) ≡ record_at w.records id =
      ap (option_map f) (changed.rest id (omega arith)) ∙ here ∙ sym (changed.rest id (omega arith)) in
      same (made ∙ sym (changed-same f w.records id there)) ∙ still.stays (λ k r below at. h k r (omega (arith, below, next_is)) at);
}
  where
    place : ((k : ℕ) (r : Rec) → k < next → record_at old.records k ≡ Some r → f r ≡ r) → (o : Option Rec) → record_at old.records id ≡ o → option_map f o ≡ o
    place h None at = refl
    place h (Some r) at = ap Some (h id r (omega (arith, next_is)) at)

-- and where all records are as they were, the world is
pub still_all : (f : Rec → Rec) (id : ℕ) (old new : WorldView) → IsChangedBelow f id old.records new.records → IsStillBelow f id old new → new.records ≡ old.records → new ≡ old
still_all f id old new changed still same =
    still.stays (λ k r below at.
    let there : Some (f r) ≡ Some r =
    sym (ap (option_map f) at) ∙ sym (changed.below k below) ∙ ap (λ (rs : List (Option Rec)). record_at rs k) same ∙ at in
    same_Some (f r) r there)
