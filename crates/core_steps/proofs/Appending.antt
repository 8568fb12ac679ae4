-- A history and a log with one item more.
use Rattle.std.proofs.Common.{◌≡◌, ℕ, zero, suc, ◌+◌, ◌<◌, ◌≤◌, false, List, [], ◌∷◌, ◌++◌, length, map, refl, sym, ap, ◌∙◌, subst, inl, inr, arith, append_assoc, length-append, ◌^◌, ◌*◌}
use Rattle.std.specs.Prelude.{◌==◌}
use Rattle.std.specs.List.Sorted.{IsStrictlyIncreasing, IsPermutation}
use Rattle.std.proofs.lemmas.Bool.{cases_Bool, true≢false, eqb-true, eq-eqb, ne_eqb}
use Rattle.std.proofs.lemmas.List.{map-append}
use Rattle.std.proofs.lemmas.List.Elements.{All-append, All-map, All-weaker, All-from_recursion}
use Rattle.std.proofs.lemmas.List.Sorted.{IsPermutation-refl, IsPermutation-trans, IsPermutation-append_comm, IsPermutation-append_left, IsPermutation-append_right}
use Rattle.entity_recs.specs.Worlds.{World}
use Rattle.entity_recs.specs.Histories.{Action, Item, entry_of, outcome, run, IsLegal}
use Rattle.entity_recs.proofs.Ids.{rising_with}
use Rattle.core_steps.specs.Stands.{IsLogWithin, items_below}

-- ---- a list with one item more

record HasSameEnds (xs ys : List Item) (x y : Item) : Type 0 where
  front : xs ≡ ys
  last : x ≡ y

not_nothing : (xs : List Item) (x : Item) → [] ≡ xs ++ x ∷ [] → ⊥
not_nothing [] x e = cc
not_nothing (y ∷ xs) x e = cc

same_ends : (xs ys : List Item) (x y : Item) → xs ++ x ∷ [] ≡ ys ++ y ∷ [] → HasSameEnds xs ys x y
same_ends [] [] x y e = record { front = refl; last = cc }
same_ends [] (b ∷ ys) x y e = let rest : [] ≡ ys ++ y ∷ [] = cc in absurd (not_nothing ys y rest)
same_ends (a ∷ xs) [] x y e = let rest : [] ≡ xs ++ x ∷ [] = cc in absurd (not_nothing xs x rest)
same_ends (a ∷ xs) (b ∷ ys) x y e =
    let head : a ≡ b = cc in
    let tail : xs ++ x ∷ [] ≡ ys ++ y ∷ [] = cc in
    let rest = same_ends xs ys x y tail in
    let front : xs ≡ ys = rest.front in
    record { front = cc; last = rest.last }

record HasLast (items : List Item) : Type 0 where
  front : List Item
  last : Item
  is : items ≡ front ++ last ∷ []

has_last : (x : Item) (xs : List Item) → HasLast (x ∷ xs)
has_last x [] = record { front = []; last = x; is = refl }
has_last x (y ∷ xs) =
    let rest = has_last y xs in
    record { front = x ∷ rest.front; last = rest.last; is = ap (λ (items : List Item). x ∷ items) rest.is }

-- ---- a legal history

-- a legal history with an item more whose entry is that of the outcome in its run
pub legal_with : (act : Action) (start : World) (history : List Item) (new : Item) → IsLegal act start history
    → new.entry ≡ entry_of (length history) new.command (outcome act (run act start history) new.command) → IsLegal act start (history ++ new ∷ [])
legal_with act start history new is here = record { each = placed }
  where
    placed : (before : List Item) (item : Item) (later : List Item) → history ++ new ∷ [] ≡ before ++ item ∷ later
        → item.entry ≡ entry_of (length before) item.command (outcome act (run act start before) item.command)
    placed before item [] split =
        let ends = same_ends history before new item split in
        subst (λ (x : Item). x.entry ≡ entry_of (length before) x.command (outcome act (run act start before) x.command)) ends.last
        (subst (λ (items : List Item). new.entry ≡ entry_of (length items) new.command (outcome act (run act start items) new.command)) ends.front here)
    placed before item (x ∷ later) split =
        let end = has_last x later in
        let longer : history ++ new ∷ [] ≡ (before ++ item ∷ end.front) ++ end.last ∷ [] =
        split ∙ ap (λ (items : List Item). before ++ item ∷ items) end.is ∙ sym (append_assoc before (item ∷ end.front) (end.last ∷ [])) in
        is.each before item end.front (same_ends history (before ++ item ∷ end.front) new end.last longer).front

-- ---- the items of all logs

pub items_same_below : (n : ℕ) (f g : ℕ → List Item) → ((k : ℕ) → k < n → f k ≡ g k) → items_below n f ≡ items_below n g
unfolding items_below
items_same_below zero f g same = refl
items_same_below (suc n) f g same =
    let rest = items_same_below n f g (λ k below. same k (omega arith)) in
    let here = same n (omega arith) in
    cc

-- the items of the logs where one of them has an item more
pub items_with : (n i : ℕ) (logs new : ℕ → List Item) (item : Item) → i < n → new i ≡ logs i ++ item ∷ [] → ((k : ℕ) → (k == i) ≡ false → new k ≡ logs k)
    → IsPermutation (items_below n logs ++ item ∷ []) (items_below n new)
unfolding items_below
items_with zero i logs new item below here others = absurd (omega arith)
items_with (suc n) i logs new item below here others =
    let front = items_below n logs in
    let one = item ∷ [] in
    elim (cases_Bool (n == i)) [
      | inl e ↦
          let same : n ≡ i = eqb-true n i e in
          let before : items_below n new ≡ front = items_same_below n new logs (λ k less. others k (ne_eqb k i (λ is. absurd (omega arith)))) in
          let log : new n ≡ logs n ++ one = subst (λ (m : ℕ). new m ≡ logs m ++ one) (sym same) here in
          let all : items_below n new ++ new n ≡ (front ++ logs n) ++ one =
          ap (λ (xs : List Item). xs ++ new n) before ∙ ap (λ (xs : List Item). front ++ xs) log ∙ sym (append_assoc front (logs n) one) in
          subst (IsPermutation ((front ++ logs n) ++ one)) (sym all) (IsPermutation-refl ((front ++ logs n) ++ one))
      | inr e ↦
          let least : i < n = below_other n i below e in
          let rest = items_with n i logs new item least here others in
          let log : new n ≡ logs n = others n e in
          let moved : IsPermutation (front ++ (logs n ++ one)) (front ++ (one ++ logs n)) =
          IsPermutation-append_right front (logs n ++ one) (one ++ logs n) (IsPermutation-append_comm (logs n) one) in
          let moved' : IsPermutation ((front ++ logs n) ++ one) ((front ++ one) ++ logs n) =
          subst (λ (xs : List Item). IsPermutation xs ((front ++ one) ++ logs n)) (sym (append_assoc front (logs n) one))
          (subst (IsPermutation (front ++ (logs n ++ one))) (sym (append_assoc front one (logs n))) moved) in
          let grown : IsPermutation ((front ++ one) ++ logs n) (items_below n new ++ logs n) =
          IsPermutation-append_left (logs n) (front ++ one) (items_below n new) rest in
          subst (λ (xs : List Item). IsPermutation ((front ++ logs n) ++ one) (items_below n new ++ xs)) (sym log)
          (IsPermutation-trans ((front ++ logs n) ++ one) ((front ++ one) ++ logs n) (items_below n new ++ logs n) moved' grown)
    ]
  where
    differs : (n i : ℕ) → i < n + 1 → (n ≡ i → ⊥) → i < n
    differs n i less other = omega (arith, other)

    below_other : (n i : ℕ) → i < suc n → (n == i) ≡ false → i < n
    below_other n i less e = differs n i (omega arith) (λ same. true≢false (sym (eq-eqb n i same) ∙ e))

-- ---- a log

-- a log with an item whose place is at least what was seen
pub within_with : (seen room : ℕ) (log : List Item) (item : Item) → IsLogWithin seen room log → seen ≤ item.entry.place → length log < room
    → IsLogWithin (suc item.entry.place) room (log ++ item ∷ [])
within_with seen room log item is least fits = record {
  rising = subst IsStrictlyIncreasing (sym (map-append (λ (x : Item). x.entry.place) log (item ∷ [])))
      (rising_with (map (λ (x : Item). x.entry.place) log) item.entry.place is.rising
      (All-map (λ (n : ℕ). n < item.entry.place) (λ (x : Item). x.entry.place) log
      (All-weaker (λ (x : Item). x.entry.place < seen) (λ (x : Item). x.entry.place < item.entry.place) (λ x less. omega arith) log is.below)));
  below = All-append (λ (x : Item). x.entry.place < suc item.entry.place) log (item ∷ [])
      (All-weaker (λ (x : Item). x.entry.place < seen) (λ (x : Item). x.entry.place < suc item.entry.place) (λ x less. omega arith) log is.below)
      (All-from_recursion (λ (x : Item). x.entry.place < suc item.entry.place) (item ∷ []) (omega arith, tt));
  fits = omega (arith, length-append log (item ∷ []));
}

pub below_small : (n : ℕ) (logs : ℕ → List Item) → ((k : ℕ) → length (logs k) < 2 ^ 32) → length (items_below n logs) ≤ n * 2 ^ 32
unfolding items_below
below_small zero logs small = omega arith
below_small (suc n) logs small =
    let rest = below_small n logs small in
    let one = small n in
    rw (length-append (items_below n logs) (logs n)) (omega (arith, rest, one))
