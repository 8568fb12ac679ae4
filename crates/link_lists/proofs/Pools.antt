-- Lemmas about the lists of a pool: where an id is, and what the calls change.
use Rattle.std.proofs.Common.{◌≡◌, ◌≢◌, ℕ, ◌+◌, ◌<◌, ◌≤◌, ◌⊎◌, ◌↔◌, Bool, true, false, nat_eq, List, [], ◌∷◌, map, length, replicate, Option, Some, None, IfSome, slice_get, sym, refl, ap, ◌∙◌, subst, inl, inr, arith, get_or-set_same, get_or-set_other}
use Rattle.std.specs.List.{IsDistinct, position_or_len}
use Rattle.std.proofs.lemmas.Bool.{cases_eq, cases_lt, lt-ltb, eq-eqb, ne_eqb, false≢true, or_left}
use Rattle.std.proofs.lemmas.List.{get_or_past, get_or-map, get_or-replicate, length-map, length-replicate}
use Rattle.std.proofs.lemmas.List.Quantifiers.{position-Some}
use Rattle.std.proofs.lemmas.List.Sums.{fails_before_first}
use Rattle.std.proofs.lemmas.Map.Steps.{length-le_from_distinct_below}
use Rattle.std.proofs.lemmas.Option.{none-some}
use Rattle.link_lists.specs.Pool.{ListsView, has, after, without, list_of, where_of, first_of, next_of, empty_pool, lists_after_insert, lists_after_remove, IsProper, SetsOnly}
use Rattle.link_lists.proofs.OneList.{has-slice_get, has-after, has-before, after-at, first_or_after, without-itself, has-without, IsDistinct-first, IsDistinct-without, first-without, first-without_other, after-apart, after-without, after-without_other}

-- an option is empty or has a value
pub cases_option : {A : Type 0} (o : Option A) → (o ≡ None) ⊎ ((x : A) × (o ≡ Some x))
cases_option None = inl refl
cases_option (Some x) = inr (x, refl)

-- a fact of the value in an option, if there is one
pub IfSome-from : (o : Option ℕ) (P : ℕ → Type 0) → ((x : ℕ) → o ≡ Some x → P x) → IfSome o P
IfSome-from None P h = tt
IfSome-from (Some x) P h = h x refl

-- a list past the last has no id
pub list_of_past : (p : ListsView) (k : ℕ) → length p.lists ≤ k → list_of p k ≡ []
list_of_past p k h = get_or_past p.lists k [] h

-- the list where an id is has it
pub has-where_of : (p : ListsView) (id k : ℕ) → where_of p id ≡ Some k → has (list_of p k) id ≡ true
has-where_of p id k e = (position-Some (λ ids. has ids id) p.lists k [] e).1

pub where_of-lt : (p : ListsView) (id k : ℕ) → where_of p id ≡ Some k → k < length p.lists
where_of-lt p id k e = (position-Some (λ ids. has ids id) p.lists k [] e).0

-- no list has an id that is nowhere
pub has-nowhere : (p : ListsView) (id k : ℕ) → where_of p id ≡ None → has (list_of p k) id ≡ false
has-nowhere p id k e =
    let test : List ℕ → Bool = λ ids. has ids id in
    elim (cases_lt (position_or_len test p.lists) (length p.lists)) [
      | inl found ↦
          let t = lt-ltb _ _ found in
          absurd (grind arith)
      | inr past ↦ elim (cases_lt k (length p.lists)) [
        | inl within ↦ fails_before_first test p.lists k [] (omega arith)
        | inr out ↦ ap test (list_of_past p k out)
      ]
    ]

-- an id is where the one list is that has it
pub where_of-has : (p : ListsView) (id k : ℕ) → IsProper p → has (list_of p k) id ≡ true → where_of p id ≡ Some k
where_of-has p id k proper h = elim (cases_option (where_of p id)) [
  | inl none ↦ absurd (false≢true (sym (has-nowhere p id k none) ∙ h))
  | inr w ↦ w.1 ∙ ap (λ (j : ℕ). Some j) (proper.apart w.0 k id (has-where_of p id w.0 w.1) h)
]

-- an id is in a list exactly where the list has it
pub where_of-member : (p : ListsView) (id k : ℕ) → IsProper p → (where_of p id ≡ Some k) ↔ (has (list_of p k) id ≡ true)
where_of-member p id k proper = (has-where_of p id k, where_of-has p id k proper)

-- what comes next, by the list that has the id
pub next_of-in : (p : ListsView) (id k : ℕ) → where_of p id ≡ Some k → next_of p id ≡ after id (list_of p k)
next_of-in p id k e = rw e refl

pub next_of-nowhere : (p : ListsView) (id : ℕ) → where_of p id ≡ None → next_of p id ≡ None
next_of-nowhere p id e = rw e refl

-- an id is in the list that has it
pub where_of-at : (p : ListsView) (k place id : ℕ) → IsProper p → slice_get (list_of p k) place ≡ Some id → where_of p id ≡ Some k
where_of-at p k place id proper e = where_of-has p id k proper (has-slice_get (list_of p k) place id e)

-- no list is longer than there are ids
pub length-list_of : (p : ListsView) (k : ℕ) → IsProper p → length (list_of p k) ≤ p.ids
length-list_of p k proper = length-le_from_distinct_below (list_of p k) p.ids (proper.once k) (λ id h. proper.in_range k id h)

-- after the id at a place comes the id at the next place
pub next_of-at : (p : ListsView) (k place id : ℕ)
    → IsProper p → slice_get (list_of p k) place ≡ Some id → next_of p id ≡ slice_get (list_of p k) (place + 1)
next_of-at p k place id proper e =
    next_of-in p id k (where_of-at p k place id proper e) ∙ after-at (list_of p k) place id (proper.once k) e ∙ ap (slice_get (list_of p k)) (omega arith)

-- an id that comes next is in the same list
pub next_of-Some : (p : ListsView) (id other : ℕ)
    → next_of p id ≡ Some other → (k : ℕ) × (where_of p id ≡ Some k) × (after id (list_of p k) ≡ Some other)
next_of-Some p id other e = elim (cases_option (where_of p id)) [
  | inl none ↦ absurd (none-some other (sym (next_of-nowhere p id none) ∙ e))
  | inr w ↦ (w.0, w.1, sym (next_of-in p id w.0 w.1) ∙ e)
]

-- and the same for any list that the first id is in
pub where_of-next_same : (p : ListsView) (id other : ℕ)
    → IsProper p → next_of p id ≡ Some other → where_of p other ≡ where_of p id
where_of-next_same p id other proper e =
    let w = next_of-Some p id other e in
    where_of-has p other w.0 proper (has-after (list_of p w.0) id other w.2) ∙ sym w.1

pub where_of-next : (p : ListsView) (id other k : ℕ)
    → IsProper p → where_of p id ≡ Some k → next_of p id ≡ Some other → where_of p other ≡ Some k
where_of-next p id other k proper at e =
    where_of-has p other k proper (has-after (list_of p k) id other (sym (next_of-in p id k at) ∙ e))

-- no id comes next after itself
pub next_of-apart : (p : ListsView) (id : ℕ) → IsProper p → next_of p id ≡ Some id → ⊥
next_of-apart p id proper e =
    let w = next_of-Some p id id e in
    after-apart (list_of p w.0) id (proper.once w.0) w.2

-- a first id is in its list
pub where_of-first : (p : ListsView) (k id : ℕ) → IsProper p → first_of p k ≡ Some id → where_of p id ≡ Some k
where_of-first p k id proper e = where_of-at p k 0 id proper e

-- an id of a list is its first or comes next after another
pub first_or_next : (p : ListsView) (id k : ℕ)
    → IsProper p → where_of p id ≡ Some k → (first_of p k ≡ Some id) ⊎ ((b : ℕ) × (next_of p b ≡ Some id))
first_or_next p id k proper at =
    elim (first_or_after (list_of p k) id (proper.once k) (has-where_of p id k at)) [
      | inl first ↦ inl first
      | inr w ↦
          let there = where_of-has p w.0 k proper (has-before (list_of p k) w.0 id w.1) in
          inr (w.0, next_of-in p w.0 k there ∙ w.1)
    ]

-- where an id is, is the same in two pools whose lists agree on it
pub where_of-same : (old new : ListsView) (id : ℕ)
    → IsProper new → ((k : ℕ) → has (list_of new k) id ≡ has (list_of old k) id) → where_of new id ≡ where_of old id
where_of-same old new id proper same = elim (cases_option (where_of old id)) [
  | inl none ↦ elim (cases_option (where_of new id)) [
    | inl also ↦ also ∙ sym none
    | inr w ↦ absurd (false≢true (sym (same w.0 ∙ has-nowhere old id w.0 none) ∙ has-where_of new id w.0 w.1))
  ]
  | inr w ↦ where_of-has new id w.0 proper (same w.0 ∙ has-where_of old id w.0 w.1) ∙ sym w.1
]

-- a new pool
pub list_of-empty : (ids lists k : ℕ) → list_of (empty_pool ids lists) k ≡ []
list_of-empty ids lists k = elim (cases_lt k lists) [
  | inl within ↦ get_or-replicate lists k [] [] within
  | inr past ↦ get_or_past (replicate lists []) k [] (simp length-replicate past)
]

pub has-empty : (ids lists k id : ℕ) → has (list_of (empty_pool ids lists) k) id ≡ false
has-empty ids lists k id = ap (λ xs. has xs id) (list_of-empty ids lists k)

pub IsProper-empty : (ids lists : ℕ) → IsProper (empty_pool ids lists)
unfolding IsDistinct
IsProper-empty ids lists = record {
  in_range = λ k id h. absurd (false≢true (sym (has-empty ids lists k id) ∙ h));
  once = λ k. subst (IsDistinct nat_eq) (sym (list_of-empty ids lists k)) tt;
  apart = λ j k id h _. absurd (false≢true (sym (has-empty ids lists j id) ∙ h));
}

pub where_of-empty : (ids lists id : ℕ) → where_of (empty_pool ids lists) id ≡ None
where_of-empty ids lists id = elim (cases_option (where_of (empty_pool ids lists) id)) [
  | inl none ↦ none
  | inr w ↦ absurd (false≢true (sym (has-empty ids lists w.0 id) ∙ has-where_of (empty_pool ids lists) id w.0 w.1))
]

-- an id inserted as the first of list k
module _ (p : ListsView) (k id : ℕ) (proper : IsProper p)
    (list_in_range : k < length p.lists) (id_in_range : id < p.ids) (unlinked : where_of p id ≡ None) where
  pub list_of-inserted : list_of (lists_after_insert p k id) k ≡ id ∷ list_of p k
  list_of-inserted = get_or-set_same p.lists k (id ∷ list_of p k) [] list_in_range

  pub list_of-inserted_other : (j : ℕ) → j ≢ k → list_of (lists_after_insert p k id) j ≡ list_of p j
  list_of-inserted_other j ne = get_or-set_other p.lists k j (id ∷ list_of p k) [] ne

  pub first_of-inserted : first_of (lists_after_insert p k id) k ≡ Some id
  first_of-inserted = ap (λ (xs : List ℕ). slice_get xs 0) list_of-inserted

  pub first_of-inserted_other : (j : ℕ) → j ≢ k → first_of (lists_after_insert p k id) j ≡ first_of p j
  first_of-inserted_other j ne = ap (λ (xs : List ℕ). slice_get xs 0) (list_of-inserted_other j ne)

  has-inserted : has (list_of (lists_after_insert p k id) k) id ≡ true
  has-inserted = ap (λ xs. has xs id) list_of-inserted ∙ or_left _ _ (eq-eqb id id refl)

  has-inserted_other : (j other : ℕ) → other ≢ id → has (list_of (lists_after_insert p k id) j) other ≡ has (list_of p j) other
  has-inserted_other j other ne = elim (cases_eq j k) [
    | inl same ↦
        let t = ne_eqb other id ne in
        let e = list_of-inserted in
        rw (same, e) (grind arith)
    | inr apart ↦ ap (λ xs. has xs other) (list_of-inserted_other j apart)
  ]

  -- only list k has the id
  only_inserted : (j : ℕ) → has (list_of (lists_after_insert p k id) j) id ≡ true → j ≡ k
  only_inserted j h = elim (cases_eq j k) [
    | inl same ↦ same
    | inr apart ↦ absurd (false≢true (sym (has-nowhere p id j unlinked) ∙ ap (λ xs. has xs id) (sym (list_of-inserted_other j apart)) ∙ h))
  ]

  pub IsProper-inserted : IsProper (lists_after_insert p k id)
  IsProper-inserted = record {
    in_range = λ j other h. elim (cases_eq other id) [
      | inl same ↦ rw same id_in_range
      | inr ne ↦ proper.in_range j other (sym (has-inserted_other j other ne) ∙ h)
    ];
    once = λ j. elim (cases_eq j k) [
      | inl same ↦
          let first = IsDistinct-first id (list_of p k) (has-nowhere p id k unlinked) (proper.once k) in
          subst (λ i. IsDistinct nat_eq (list_of (lists_after_insert p k id) i)) (sym same) (subst (IsDistinct nat_eq) (sym list_of-inserted) first)
      | inr apart ↦ subst (IsDistinct nat_eq) (sym (list_of-inserted_other j apart)) (proper.once j)
    ];
    apart = λ i j other h g. elim (cases_eq other id) [
      | inl same ↦
          only_inserted i (subst (λ o. has (list_of (lists_after_insert p k id) i) o ≡ true) same h)
          ∙ sym (only_inserted j (subst (λ o. has (list_of (lists_after_insert p k id) j) o ≡ true) same g))
      | inr ne ↦ proper.apart i j other (sym (has-inserted_other i other ne) ∙ h) (sym (has-inserted_other j other ne) ∙ g)
    ];
  }

  pub where_of-inserted : SetsOnly p (lists_after_insert p k id) id (Some k)
  where_of-inserted = record {
    changed = where_of-has (lists_after_insert p k id) id k IsProper-inserted has-inserted;
    others = λ other ne. where_of-same p (lists_after_insert p k id) other IsProper-inserted (λ j. has-inserted_other j other ne);
  }

  pub next_of-inserted : next_of (lists_after_insert p k id) id ≡ first_of p k
  next_of-inserted =
      let t = eq-eqb id id refl in
      let e = list_of-inserted in
      next_of-in (lists_after_insert p k id) id k where_of-inserted.changed ∙ ap (after id) e ∙ (grind arith)

  pub next_of-inserted_other : (other : ℕ) → other ≢ id → next_of (lists_after_insert p k id) other ≡ next_of p other
  next_of-inserted_other other ne = elim (cases_option (where_of p other)) [
    | inl none ↦ next_of-nowhere (lists_after_insert p k id) other (where_of-inserted.others other ne ∙ none) ∙ sym (next_of-nowhere p other none)
    | inr w ↦
        next_of-in (lists_after_insert p k id) other w.0 (where_of-inserted.others other ne ∙ w.1)
        ∙ elim (cases_eq w.0 k) [
          | inl same ↦
              let t = ne_eqb other id ne in
              let e = list_of-inserted in
              rw (same, e) (grind arith)
          | inr apart ↦ ap (after other) (list_of-inserted_other w.0 apart)
        ]
        ∙ sym (next_of-in p other w.0 w.1)
  ]

-- an id removed
module _ (p : ListsView) (id : ℕ) (proper : IsProper p) where
  pub list_of-removed : (j : ℕ) → list_of (lists_after_remove p id) j ≡ without id (list_of p j)
  list_of-removed j = elim (cases_lt j (length p.lists)) [
    | inl within ↦ get_or-map (without id) p.lists j [] [] within
    | inr past ↦ get_or_past (map (without id) p.lists) j [] (simp length-map past) ∙ ap (without id) (sym (list_of_past p j past))
  ]

  has-removed : (j : ℕ) → has (list_of (lists_after_remove p id) j) id ≡ false
  has-removed j = ap (λ xs. has xs id) (list_of-removed j) ∙ without-itself (list_of p j) id

  has-removed_other : (j other : ℕ) → other ≢ id → has (list_of (lists_after_remove p id) j) other ≡ has (list_of p j) other
  has-removed_other j other ne = ap (λ xs. has xs other) (list_of-removed j) ∙ has-without (list_of p j) id other ne

  -- what a list has now it had before
  had : (j other : ℕ) → has (list_of (lists_after_remove p id) j) other ≡ true → has (list_of p j) other ≡ true
  had j other h = elim (cases_eq other id) [
    | inl same ↦ absurd (false≢true (sym (has-removed j) ∙ subst (λ o. has (list_of (lists_after_remove p id) j) o ≡ true) same h))
    | inr ne ↦ sym (has-removed_other j other ne) ∙ h
  ]

  pub IsProper-removed : IsProper (lists_after_remove p id)
  IsProper-removed = record {
    in_range = λ j other h. proper.in_range j other (had j other h);
    once = λ j. subst (IsDistinct nat_eq) (sym (list_of-removed j)) (IsDistinct-without (list_of p j) id (proper.once j));
    apart = λ i j other h g. proper.apart i j other (had i other h) (had j other g);
  }

  pub where_of-removed : SetsOnly p (lists_after_remove p id) id None
  where_of-removed = record {
    changed = elim (cases_option (where_of (lists_after_remove p id) id)) [
      | inl none ↦ none
      | inr w ↦ absurd (false≢true (sym (has-removed w.0) ∙ has-where_of (lists_after_remove p id) id w.0 w.1))
    ];
    others = λ other ne. where_of-same p (lists_after_remove p id) other IsProper-removed (λ j. has-removed_other j other ne);
  }

  pub next_of-removed : next_of (lists_after_remove p id) id ≡ None
  next_of-removed = next_of-nowhere (lists_after_remove p id) id where_of-removed.changed

  -- what came next after the removed id comes next after the one before it
  pub next_of-removed_before : (b : ℕ) → next_of p b ≡ Some id → next_of (lists_after_remove p id) b ≡ next_of p id
  next_of-removed_before b e =
      let w = next_of-Some p b id e in
      let apart : b ≢ id = λ same. after-apart (list_of p w.0) id (proper.once w.0) (subst (λ x. after x (list_of p w.0) ≡ Some id) same w.2) in
      next_of-in (lists_after_remove p id) b w.0 (where_of-removed.others b apart ∙ w.1)
      ∙ ap (after b) (list_of-removed w.0)
      ∙ after-without (list_of p w.0) id b (proper.once w.0) w.2
      ∙ sym (next_of-in p id w.0 (where_of-next p b id w.0 proper w.1 e))

  pub next_of-removed_other : (other : ℕ) → other ≢ id → (next_of p other ≡ Some id → ⊥) → next_of (lists_after_remove p id) other ≡ next_of p other
  next_of-removed_other other ne nf = elim (cases_option (where_of p other)) [
    | inl none ↦ next_of-nowhere (lists_after_remove p id) other (where_of-removed.others other ne ∙ none) ∙ sym (next_of-nowhere p other none)
    | inr w ↦
        next_of-in (lists_after_remove p id) other w.0 (where_of-removed.others other ne ∙ w.1)
        ∙ ap (after other) (list_of-removed w.0)
        ∙ after-without_other (list_of p w.0) id other (proper.once w.0) ne (λ e. nf (next_of-in p other w.0 w.1 ∙ e))
        ∙ sym (next_of-in p other w.0 w.1)
  ]

  pub first_of-removed : (k : ℕ) → first_of p k ≡ Some id → first_of (lists_after_remove p id) k ≡ next_of p id
  first_of-removed k e =
      ap (λ (xs : List ℕ). slice_get xs 0) (list_of-removed k)
      ∙ first-without (list_of p k) id (proper.once k) e
      ∙ sym (next_of-in p id k (where_of-first p k id proper e))

  pub first_of-removed_other : (k : ℕ) → (first_of p k ≡ Some id → ⊥) → first_of (lists_after_remove p id) k ≡ first_of p k
  first_of-removed_other k nf = ap (λ (xs : List ℕ). slice_get xs 0) (list_of-removed k) ∙ first-without_other (list_of p k) id nf
