-- When a list has no next id, and when an id is in no list.
use Rattle.std.proofs.Common.{◌≡◌, ◌↔◌, ℕ, zero, suc, ◌+◌, Bool, true, false, List, [], ◌∷◌, length, Option, Some, None, IsTrue, slice_get, refl, sym, ap, ◌∙◌, subst, arith}
use Rattle.link_lists.specs.Pool.{ListsView, has, list_of}

-- nothing comes after the last place, and something after every other
pub none_after_last : (xs : List ℕ) (place id : ℕ) → slice_get xs place ≡ Some id → (slice_get xs (place + 1) ≡ None) ↔ (length xs ≡ place + 1)
none_after_last [] place id at = cc
none_after_last (x ∷ []) zero id at = (λ _. refl, λ _. refl)
none_after_last (x ∷ (y ∷ ys)) zero id at = (λ h. cc, λ h. absurd (omega (arith, h)))
none_after_last (x ∷ xs) (suc place) id at =
    let rest = none_after_last xs place id at in
    let next : suc place + 1 ≡ suc (place + 1) = omega arith in
    let same : slice_get (x ∷ xs) (suc place + 1) ≡ slice_get xs (place + 1) = ap (slice_get (x ∷ xs)) next in
    (λ h. let there = rest.0 (sym same ∙ h) in omega (arith, there), λ h. same ∙ rest.1 (let there : length xs ≡ place + 1 = omega (arith, h) in there))

-- an answer that is a list exactly where that list has the id is none exactly where no list has it
pub none_where_absent : (p : ListsView) (id : ℕ) (answer : Option ℕ) → ((list : ℕ) → (answer ≡ Some list) ↔ IsTrue (has (list_of p list) id))
    → (answer ≡ None) ↔ ((list : ℕ) → has (list_of p list) id ≡ false)
none_where_absent p id None member = (λ _ list. absent list (has (list_of p list) id) refl, λ _. refl)
  where
    absent : (list : ℕ) (b : Bool) → has (list_of p list) id ≡ b → b ≡ false
    absent list true is = let found : None ≡ Some list = (member list).1 (subst IsTrue (sym is) refl) in cc
    absent list false is = refl
none_where_absent p id (Some k) member = (λ h. cc, λ h. let found : IsTrue (has (list_of p k) id) = (member k).0 refl in let none : IsTrue false = subst IsTrue (h k) found in cc)
