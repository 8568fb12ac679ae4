-- That a call of the action was tested.
use Rattle.std.proofs.Common.{◌≡◌, ℕ, ◌+◌, ◌-◌, ◌<◌, ◌≤◌, nat_lt, Bool, true, false, List, [], ◌∷◌, length, map, get_or, All, refl, subst, arith}
use Rattle.std.specs.List.{list_all}
use Rattle.std.proofs.lemmas.List.{get_or-map}
use Rattle.std.proofs.lemmas.List.Elements.{All-cons, All-nil}
use Rattle.std.proofs.lemmas.Bool.{and_parts, ltb-false, ltb-true}
use Rattle.entity_recs.specs.declared.rec.Rec.{Rec}

-- the ids of records
abbrev pub ids_of : List Rec → List ℕ
ids_of rs = map (λ (r : Rec). r.id) rs

at_end : (k i : ℕ) → k + 1 < i + 1 → i ≤ k + 1 → i ≡ k + 1
at_end k i below most = omega (arith, below, most)

-- where the ids rise up to a place and there too, they rise up to the next
pub rising_more : (rs : List Rec) (i : ℕ) (d : Rec) → 1 ≤ i → i < length rs → ((k : ℕ) → k + 1 < i → k + 1 < length rs → get_or (ids_of rs) k 0 < get_or (ids_of rs) (k + 1) 0)
    → (get_or rs (i - 1) d).id < (get_or rs i d).id → (k : ℕ) → k + 1 < i + 1 → k + 1 < length rs → get_or (ids_of rs) k 0 < get_or (ids_of rs) (k + 1) 0
rising_more rs i d least within rising here k below short = by (nat_lt (k + 1) i) refl
  where
    by : (b : Bool) → nat_lt (k + 1) i ≡ b → get_or (ids_of rs) k 0 < get_or (ids_of rs) (k + 1) 0
    by true e = rising k (ltb-true (k + 1) i e) short
    by false e =
        let same : i ≡ k + 1 = at_end k i below (ltb-false (k + 1) i e) in
        let last : i - 1 ≡ k = omega (arith, same) in
        let before : get_or (ids_of rs) k 0 ≡ (get_or rs k d).id = get_or-map (λ (r : Rec). r.id) rs k d 0 (omega (arith, short)) in
        let after : get_or (ids_of rs) (k + 1) 0 ≡ (get_or rs (k + 1) d).id = get_or-map (λ (r : Rec). r.id) rs (k + 1) d 0 short in
        rw (before, after) (subst (λ j. (get_or rs k d).id < (get_or rs j d).id) same (subst (λ j. (get_or rs j d).id < (get_or rs i d).id) last here))

-- what each element passes holds of each
pub all_hold : {X : Type 0} (p q : X → Bool) (b : Bool) → ((x : X) → p x ≡ true → q x ≡ b) → (xs : List X) → list_all p xs ≡ true → All (λ x. q x ≡ b) xs
all_hold p q b implies [] e = All-nil (λ x. q x ≡ b)
all_hold p q b implies (x ∷ xs) e =
    let here = and_parts (p x) (list_all p xs) e in
    All-cons (λ x. q x ≡ b) x xs (implies x here.0) (all_hold p q b implies xs here.1)
