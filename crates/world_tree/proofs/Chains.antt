-- A walk along one list, from id to id.
use Rattle.std.proofs.Common.{◌≡◌, ◌≢◌, ℕ, true, if◌then◌else◌, nat_eq, List, [], ◌∷◌, Option, Some, None, slice_get, sym, refl, ap, ◌∙◌, inl, inr, arith}
use Rattle.std.specs.List.{IsDistinct}
use Rattle.std.proofs.lemmas.Bool.{cases_eq, or_cases, eqb-true, eq-eqb, ne_eqb, false≢true}
use Rattle.link_lists.specs.Pool.{ListsView, has, after, list_of, where_of, first_of, next_of, IsProper}
use Rattle.link_lists.proofs.OneList.{rest_lacks_first, rest_is_distinct, has-slice_get, has-after}
use Rattle.link_lists.proofs.Pools.{has-where_of, next_of-in}

-- the ids of a list from this one on
abbrev pub ids_from : ℕ → List ℕ → List ℕ
ids_from id [] = []
ids_from id (x ∷ xs) = if nat_eq id x then x ∷ xs else ids_from id xs

-- the ids of a list that are left where a walk stands at this one, if it stands at one
abbrev pub rest_at : Option ℕ → List ℕ → List ℕ
rest_at None ids = []
rest_at (Some id) ids = ids_from id ids

-- at the first id the whole list is left
rest-first : (ids : List ℕ) → rest_at (slice_get ids 0) ids ≡ ids
rest-first [] = refl
rest-first (x ∷ xs) = let t = eq-eqb x x refl in grind arith

-- an id of the rest isn't the first
rest-later : (x : ℕ) (xs : List ℕ) (at : Option ℕ)
    → ((id : ℕ) → at ≡ Some id → x ≢ id) → rest_at at (x ∷ xs) ≡ rest_at at xs
rest-later x xs None apart = refl
rest-later x xs (Some id) apart =
    let t = ne_eqb id x (λ e. apart id refl (sym e)) in
    rw t refl

-- after an id of the list its rest is left
rest-next : (ids : List ℕ) (id : ℕ) → IsDistinct nat_eq ids → has ids id ≡ true
    → rest_at (Some id) ids ≡ id ∷ rest_at (after id ids) ids
rest-next [] id distinct member = absurd (false≢true member)
rest-next (x ∷ xs) id distinct member =
    let lacks = rest_lacks_first x xs distinct in
    elim (cases_eq id x) [
      | inl same ↦
          let t = eq-eqb id x same in
          let later = rest-later x xs (slice_get xs 0)
          (λ other e f. false≢true (sym lacks ∙ ap (has xs) f ∙ has-slice_get xs 0 other e)) in
          rw t (ap (λ (y : ℕ). y ∷ xs) (sym same) ∙ ap (λ (ys : List ℕ). id ∷ ys) (sym (later ∙ rest-first xs)))
      | inr apart ↦
          let t = ne_eqb id x apart in
          let within : has xs id ≡ true = elim (or_cases (nat_eq id x) (has xs id) member) [
            | inl here ↦ absurd (apart (eqb-true id x here))
            | inr there ↦ there
          ] in
          let later = rest-later x xs (after id xs)
          (λ other e f. false≢true (sym lacks ∙ ap (has xs) f ∙ has-after xs id other e)) in
          rw t (rest-next xs id (rest_is_distinct x xs distinct) within ∙ ap (λ (ys : List ℕ). id ∷ ys) (sym later))
    ]

-- a walk begins with the whole list
pub rest-begins : (p : ListsView) (k : ℕ) (at : Option ℕ) → at ≡ first_of p k → rest_at at (list_of p k) ≡ list_of p k
rest-begins p k at e = rw e (rest-first (list_of p k))

-- and goes on with what is left after an id
pub rest-goes_on : (p : ListsView) (k id : ℕ) (at : Option ℕ)
    → IsProper p → where_of p id ≡ Some k → at ≡ next_of p id
    → rest_at (Some id) (list_of p k) ≡ id ∷ rest_at at (list_of p k)
rest-goes_on p k id at proper there e =
    rest-next (list_of p k) id (proper.once k) (has-where_of p id k there)
    ∙ ap (λ o. id ∷ rest_at o (list_of p k)) (sym (e ∙ next_of-in p id k there))
