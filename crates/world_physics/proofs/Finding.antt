-- Tests of all live records, one place after another.
use Rattle.std.specs.Prelude.{◌≡◌, ℕ, zero, suc, ◌+◌, ◌<◌, ◌≤◌, Bool, true, false, ◌||◌, List, ◌∷◌, Option, Some, None}
use Rattle.std.specs.List.{list_any}
use Rattle.std.specs.Option.{option_map_or}
use Rattle.std.proofs.Common.{refl, sym, ap, ◌∙◌, inl, inr, arith, []}
use Rattle.std.proofs.lemmas.Bool.{cases_Bool, cases_eq, cases_lt, or_right}
use Rattle.std.proofs.lemmas.Option.{none-some, same_Some}
use Rattle.entity_recs.specs.declared.rec.Rec.{Rec}
use Rattle.entity_recs.specs.declared.kind.Kind.{Kind}
use Rattle.entity_recs.specs.declared.kind.Kind.TheVariants as kinds
use Rattle.entity_recs.specs.Records.{IsIdOf}
use Rattle.entity_recs.specs.Kinds.{is_player}
use Rattle.world_tree.specs.Live.{record_at, live_in, IsEntry}
use Rattle.world_physics.specs.declared.lift_step.LiftStep.{LiftStep}
use Rattle.world_physics.specs.LiftSteps.{is_carried}

-- a live record that passes is found
pub found : (p : Rec → Bool) (records : List (Option Rec)) (id : ℕ) (r : Rec) → record_at records id ≡ Some r → p r ≡ true → list_any p (live_in records) ≡ true
found p [] id r at passes = absurd (none-some r at)
found p (None ∷ records) zero r at passes = absurd (none-some r at)
found p (None ∷ records) (suc id) r at passes = found p records id r at passes
found p (Some x ∷ records) zero r at passes = ap (λ b. b || list_any p (live_in records)) (ap p (same_Some x r at) ∙ passes)
found p (Some x ∷ records) (suc id) r at passes = or_right (p x) (list_any p (live_in records)) (found p records id r at passes)

-- where no live record passes, none is found
pub none_found : (p : Rec → Bool) (records : List (Option Rec)) → ((id : ℕ) (r : Rec) → record_at records id ≡ Some r → p r ≡ false) → list_any p (live_in records) ≡ false
none_found p [] none = refl
none_found p (None ∷ records) none = none_found p records (λ id r at. none (suc id) r at)
none_found p (Some x ∷ records) none = ap (λ b. b || list_any p (live_in records)) (none zero x refl) ∙ none_found p records (λ id r at. none (suc id) r at)

-- where none is found, no live record passes
pub not_found : (p : Rec → Bool) (records : List (Option Rec)) (id : ℕ) (r : Rec) → list_any p (live_in records) ≡ false → record_at records id ≡ Some r → p r ≡ false
not_found p records id r none at = elim (cases_Bool (p r)) [
  | inl passes ↦ let yes_it = found p records id r at passes in cc
  | inr fails ↦ fails
]

-- ---- one place after another

-- no live record below this id passes
pub record IsNoneBelow (p : Rec → Bool) (id : ℕ) (records : List (Option Rec)) : Type 0 where
  pub none : (k : ℕ) (r : Rec) → k < id → record_at records k ≡ Some r → p r ≡ false

pub none_at_first : (p : Rec → Bool) (records : List (Option Rec)) → IsNoneBelow p 0 records
none_at_first p records = record { none = λ k r h at. absurd (omega (arith, h)) }

-- one place more
pub none_more : (p : Rec → Bool) (id next : ℕ) (records : List (Option Rec)) (place : Option Rec) → next ≡ id + 1 → place ≡ record_at records id → IsNoneBelow p id records
    → option_map_or p place false ≡ false → IsNoneBelow p next records
none_more p id next records place next_is place_is is here = record {
  none = λ k r below at. elim (cases_eq k id) [
    | inl same ↦
        let found_here : place ≡ Some r = place_is ∙ ap (record_at records) (sym same) ∙ at in
        ap (λ o. option_map_or p o false) (sym found_here) ∙ here
    | inr other ↦ is.none k r (omega (arith, below, other, next_is)) at
  ];
}

-- a place whose record passes
pub found_here : (p : Rec → Bool) (records : List (Option Rec)) (id : ℕ) (place : Option Rec) → place ≡ record_at records id → option_map_or p place false ≡ true
    → list_any p (live_in records) ≡ true
found_here p records id None is passes = cc
found_here p records id (Some r) is passes = found p records id r (sym is) passes

-- where no place below an id passes, and none from it on
pub none_at_last : (p : Rec → Bool) (id : ℕ) (records : List (Option Rec)) → IsNoneBelow p id records
    → ((k : ℕ) (r : Rec) → id ≤ k → record_at records k ≡ Some r → p r ≡ false) → list_any p (live_in records) ≡ false
none_at_last p id records is past =
    none_found p records (λ k r at. elim (cases_lt k id) [ inl below ↦ is.none k r below at | inr later ↦ past k r later at ])

-- ---- players

pub kind_past : (kind : Kind) (id : ℕ) → IsIdOf kind id → 64 ≤ id → is_player kind ≡ false
kind_past kinds.Player id is past = absurd (omega (arith, is, past))
kind_past kinds.Ammo id is past = refl
kind_past kinds.Gem id is past = refl
kind_past kinds.Teleporter id is past = refl
kind_past kinds.Goal id is past = refl
kind_past kinds.Lift id is past = refl

-- past the slots nobody is carried
pub not_carried_past : (step : LiftStep) (id : ℕ) (r : Rec) → IsEntry id r → 64 ≤ id → is_carried step r ≡ false
not_carried_past step id r entry past =
    let own = entry.own_id in
    let player : is_player r.kind ≡ false = kind_past r.kind r.id entry.is_record.id (omega (arith, own, past)) in
    rw player refl
