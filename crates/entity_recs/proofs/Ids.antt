-- The ids of each kind, a player's shape, and lists of ids that rise.
use Rattle.std.proofs.Common.{◌≡◌, ℕ, ◌+◌, ◌<◌, ◌≤◌, true, false, List, [], ◌∷◌, ◌++◌, length, Option, Some, None, is_some, refl, subst, sym, ◌∙◌, inl, inr, arith, length-append}
use Rattle.std.specs.Prelude.{◌==◌, All}
use Rattle.std.specs.List.Sorted.{IsStrictlyIncreasing}
use Rattle.std.proofs.Math.ListN.{get_or, get_or-append}
use Rattle.std.proofs.Math.Seq.{get_or-append_seam}
use Rattle.std.proofs.lemmas.Bool.{cases_Bool, true≢false, eqb-true, eq-eqb}
use Rattle.entity_recs.specs.declared.limits.TheConstants.{IDS}
use Rattle.entity_recs.specs.declared.kind.Kind.{Kind}
use Rattle.entity_recs.specs.declared.kind.Kind.TheVariants.{Player, Ammo, Gem, Teleporter, Goal, Lift}
use Rattle.entity_recs.specs.declared.rec.Rec.{Rec}
use Rattle.entity_recs.specs.Kinds.{is_item}
use Rattle.entity_recs.specs.Records.{IsIdOf, IsRecord, IsShapeOf}

-- an id below 64 is a player's
pub kind_of_id : (kind : Kind) (id : ℕ) → IsIdOf kind id → id < 64 → kind ≡ Player
kind_of_id Player id is below = refl
kind_of_id Ammo id is below = absurd (omega (arith, is.least, below))
kind_of_id Gem id is below = absurd (omega (arith, is.least, below))
kind_of_id Teleporter id is below = absurd (omega (arith, is.least, below))
kind_of_id Goal id is below = absurd (omega (arith, is.least, below))
kind_of_id Lift id is below = absurd (omega (arith, is.least, below))

-- every id is below 512
pub id_in : (kind : Kind) (id : ℕ) → IsIdOf kind id → id < IDS
id_in Player id is = omega arith
id_in Ammo id is = omega (arith, is.most)
id_in Gem id is = omega (arith, is.most)
id_in Teleporter id is = omega (arith, is.most)
id_in Goal id is = omega (arith, is.most)
id_in Lift id is = omega (arith, is.most)

-- an item's id is at least 64
pub thing_id : (k : Kind) (id : ℕ) → is_item k ≡ true → IsIdOf k id → 64 ≤ id
thing_id Player id item is = cc
thing_id Ammo id item is = is.least
thing_id Gem id item is = is.least
thing_id Teleporter id item is = cc
thing_id Goal id item is = cc
thing_id Lift id item is = cc

-- a player's shape
pub player_shape : (r : Rec) → IsRecord r → r.kind ≡ Player → IsShapeOf Player r.origin r.mins r.maxs
player_shape r is kind = subst (λ (k : Kind). IsShapeOf k r.origin r.mins r.maxs) kind is.shape

-- a list that rises does so with a number above all of it
pub rising_with : (xs : List ℕ) (x : ℕ) → IsStrictlyIncreasing xs → All (λ y. y < x) xs → IsStrictlyIncreasing (xs ++ x ∷ [])
rising_with xs x rising below k more =
    let first = get_or-append xs (x ∷ []) 0 k (omega (arith, length-append xs (x ∷ []))) in
    elim (cases_Bool (k + 1 == length xs)) [
      | inl last ↦
          let seam : get_or (xs ++ x ∷ []) (k + 1) 0 ≡ x =
          subst (λ (n : ℕ). get_or (xs ++ x ∷ []) n 0 ≡ x) (sym (eqb-true (k + 1) (length xs) last)) (get_or-append_seam xs x [] 0) in
          rw (first, seam) (below k 0 (omega (arith, length-append xs (x ∷ []))))
      | inr other ↦
          let less : k + 1 < length xs = not_last (k + 1) (length xs) (omega (arith, length-append xs (x ∷ []))) (λ same. true≢false (sym (eq-eqb (k + 1) (length xs) same) ∙ other)) in
          let second = get_or-append xs (x ∷ []) 0 (k + 1) less in
          rw (first, second) (rising k less)
    ]
  where
    not_last : (a b : ℕ) → a < b + 1 → (a ≡ b → ⊥) → a < b
    not_last a b less other = omega (arith, other)

-- there is no record where the test finds none
pub no_record : (o : Option Rec) → is_some o ≡ false → o ≡ None
no_record None e = refl
no_record (Some r) e = cc
