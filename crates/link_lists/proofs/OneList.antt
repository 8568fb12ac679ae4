-- Lemmas about the ids of one list, in which no id is twice.
use Rattle.std.proofs.Common.{◌≡◌, ◌≢◌, ℕ, zero, suc, ◌⊎◌, true, false, nat_eq, List, [], ◌∷◌, Some, slice_get, sym, refl, ap, ◌∙◌, subst, inl, inr, arith}
use Rattle.std.specs.List.{IsDistinct, AllByRecursion}
use Rattle.std.proofs.lemmas.Bool.{cases_Bool, cases_eq, or_from, or_left, or_right, or_parts, or_cases, eqb-true, eqb-false, eq-eqb, ne_eqb, false≢true}
use Rattle.std.proofs.lemmas.Option.{none-some, same_Some}
use Rattle.link_lists.specs.Pool.{has, after, without}

-- no id of the list is x: the two ways to say it
has_from_all : (x : ℕ) (xs : List ℕ) → AllByRecursion (λ y. nat_eq x y ≡ false) xs → has xs x ≡ false
has_from_all x [] h = refl
has_from_all x (y ∷ ys) h = or_from _ _ h.0 (has_from_all x ys h.1)

all_from_has : (x : ℕ) (xs : List ℕ) → has xs x ≡ false → AllByRecursion (λ y. nat_eq x y ≡ false) xs
all_from_has x [] h = tt
all_from_has x (y ∷ ys) h = let parts = or_parts (nat_eq x y) (has ys x) h in (parts.0, all_from_has x ys parts.1)

-- the first id is not among the rest
pub rest_lacks_first : (x : ℕ) (xs : List ℕ) → IsDistinct nat_eq (x ∷ xs) → has xs x ≡ false
unfolding IsDistinct
rest_lacks_first x xs h = has_from_all x xs h.0

pub rest_is_distinct : (x : ℕ) (xs : List ℕ) → IsDistinct nat_eq (x ∷ xs) → IsDistinct nat_eq xs
unfolding IsDistinct
rest_is_distinct x xs h = h.1

pub IsDistinct-first : (x : ℕ) (xs : List ℕ) → has xs x ≡ false → IsDistinct nat_eq xs → IsDistinct nat_eq (x ∷ xs)
unfolding IsDistinct
IsDistinct-first x xs h d = (all_from_has x xs h, d)

-- the list has the id at each of its places
pub has-slice_get : (xs : List ℕ) (i id : ℕ) → slice_get xs i ≡ Some id → has xs id ≡ true
has-slice_get [] i id e = absurd (none-some _ e)
has-slice_get (x ∷ xs) zero id e = or_left _ _ (eq-eqb _ _ (sym (same_Some _ _ e)))
has-slice_get (x ∷ xs) (suc i) id e = or_right _ _ (has-slice_get xs i id e)

-- the list has the id that comes after another
pub has-after : (xs : List ℕ) (a b : ℕ) → after a xs ≡ Some b → has xs b ≡ true
has-after [] a b e = absurd (none-some _ e)
has-after (x ∷ xs) a b e = or_right _ _ (elim (cases_Bool (nat_eq a x)) [
  | inl here ↦ has-slice_get xs 0 b (grind arith)
  | inr later ↦ has-after xs a b (grind arith)
])

-- and the one before it
pub has-before : (xs : List ℕ) (a b : ℕ) → after a xs ≡ Some b → has xs a ≡ true
has-before [] a b e = absurd (none-some _ e)
has-before (x ∷ xs) a b e = elim (cases_Bool (nat_eq a x)) [
  | inl here ↦ or_left _ _ here
  | inr later ↦ or_right _ _ (has-before xs a b (grind arith))
]

-- after the id at a place comes the id at the next place
pub after-at : (xs : List ℕ) (i id : ℕ) → IsDistinct nat_eq xs → slice_get xs i ≡ Some id → after id xs ≡ slice_get xs (suc i)
after-at [] i id d e = absurd (none-some _ e)
after-at (x ∷ xs) zero id d e =
    let same = eq-eqb id x (sym (same_Some _ _ e)) in
    grind arith
after-at (x ∷ xs) (suc i) id d e =
    let lacks = rest_lacks_first x xs d in
    let member = has-slice_get xs i id e in
    let rest = after-at xs i id (rest_is_distinct x xs d) e in
    elim (cases_eq id x) [
      | inl same ↦ grind arith
      | inr other ↦ let t = ne_eqb id x other in grind arith
    ]

-- no id comes after itself
pub after-apart : (xs : List ℕ) (id : ℕ) → IsDistinct nat_eq xs → after id xs ≡ Some id → ⊥
after-apart [] id d e = none-some _ e
after-apart (x ∷ xs) id d e =
    let lacks = rest_lacks_first x xs d in
    elim (cases_eq id x) [
      | inl same ↦
          let t = eq-eqb id x same in
          let member = has-slice_get xs 0 id (grind arith) in
          false≢true (sym lacks ∙ ap (has xs) (sym same) ∙ member)
      | inr other ↦
          let t = ne_eqb id x other in
          after-apart xs id (rest_is_distinct x xs d) (grind arith)
    ]

-- an id of the list is its first or comes after another
pub first_or_after : (xs : List ℕ) (id : ℕ)
    → IsDistinct nat_eq xs → has xs id ≡ true → (slice_get xs 0 ≡ Some id) ⊎ ((b : ℕ) × (after b xs ≡ Some id))
first_or_after [] id d h = absurd (false≢true h)
first_or_after (x ∷ xs) id d h = elim (or_cases (nat_eq id x) (has xs id) h) [
  | inl here ↦ inl (ap (λ (y : ℕ). Some y) (sym (eqb-true id x here)))
  | inr later ↦ elim (first_or_after xs id (rest_is_distinct x xs d) later) [
    | inl first ↦ let t = eq-eqb x x refl in inr (x, grind arith)
    | inr w ↦
        let lacks = rest_lacks_first x xs d in
        let member = has-before xs w.0 id w.1 in
        elim (cases_eq w.0 x) [
          | inl same ↦ absurd (grind arith)
          | inr other ↦ let t = ne_eqb w.0 x other in inr (w.0, grind arith)
        ]
  ]
]

-- what is left without an id: not that id, and each other one
pub without-itself : (xs : List ℕ) (id : ℕ) → has (without id xs) id ≡ false
without-itself [] id = refl
without-itself (x ∷ xs) id =
    let rest = without-itself xs id in
    elim (cases_Bool (nat_eq id x)) [ inl same ↦ grind arith | inr other ↦ grind arith ]

pub has-without : (xs : List ℕ) (id other : ℕ) → other ≢ id → has (without id xs) other ≡ has xs other
has-without [] id other ne = refl
has-without (x ∷ xs) id other ne =
    let rest = has-without xs id other ne in
    elim (cases_Bool (nat_eq id x)) [
      | inl same ↦
          let is = eqb-true id x same in
          let t = ne_eqb other x (λ e. ne (grind arith)) in
          grind arith
      | inr apart ↦ grind arith
    ]

-- a list without an id that it lacks is itself
pub without-lacking : (xs : List ℕ) (id : ℕ) → has xs id ≡ false → without id xs ≡ xs
without-lacking [] id h = refl
without-lacking (x ∷ xs) id h =
    let parts = or_parts (nat_eq id x) (has xs id) h in
    let rest = without-lacking xs id parts.1 in
    grind arith

pub IsDistinct-without : (xs : List ℕ) (id : ℕ) → IsDistinct nat_eq xs → IsDistinct nat_eq (without id xs)
IsDistinct-without [] id d = d
IsDistinct-without (x ∷ xs) id d =
    let rest = IsDistinct-without xs id (rest_is_distinct x xs d) in
    let lacks = rest_lacks_first x xs d in
    elim (cases_Bool (nat_eq id x)) [
      | inl same ↦
          let e : without id (x ∷ xs) ≡ without id xs = grind arith in
          subst (IsDistinct nat_eq) (sym e) rest
      | inr other ↦
          let kept = IsDistinct-first x (without id xs) (has-without xs id x (λ e. eqb-false id x other (sym e)) ∙ lacks) rest in
          let e : without id (x ∷ xs) ≡ x ∷ without id xs = grind arith in
          subst (IsDistinct nat_eq) (sym e) kept
    ]

-- without an id the first is the one after it, where it was the first
pub first-without : (xs : List ℕ) (id : ℕ) → IsDistinct nat_eq xs → slice_get xs 0 ≡ Some id → slice_get (without id xs) 0 ≡ after id xs
first-without [] id d e = refl
first-without (x ∷ xs) id d e =
    let same = eq-eqb id x (sym (same_Some _ _ e)) in
    let lacks = rest_lacks_first x xs d in
    let is = eqb-true id x same in
    let rest = without-lacking xs id (ap (has xs) is ∙ lacks) in
    grind arith

pub first-without_other : (xs : List ℕ) (id : ℕ) → (slice_get xs 0 ≡ Some id → ⊥) → slice_get (without id xs) 0 ≡ slice_get xs 0
first-without_other [] id ne = refl
first-without_other (x ∷ xs) id ne =
    let other = ne_eqb id x (λ e. ne (ap (λ (y : ℕ). Some y) (sym e))) in
    grind arith

-- without an id, what comes after it comes after the one before it
pub after-without : (xs : List ℕ) (id a : ℕ)
    → IsDistinct nat_eq xs → after a xs ≡ Some id → after a (without id xs) ≡ after id xs
after-without [] id a d e = refl
after-without (x ∷ xs) id a d e =
    let lacks = rest_lacks_first x xs d in
    let member = has-after (x ∷ xs) a id e in
    let tail = rest_is_distinct x xs d in
    elim (cases_eq id x) [
      | inl same ↦
          let lacks_id : has xs id ≡ false = ap (has xs) same ∙ lacks in
          absurd (elim (cases_Bool (nat_eq a x)) [
            | inl here ↦ false≢true (sym lacks_id ∙ has-slice_get xs 0 id (grind arith))
            | inr later ↦ false≢true (sym lacks_id ∙ has-after xs a id (grind arith))
          ])
      | inr other ↦
          let t = ne_eqb id x other in
          elim (cases_Bool (nat_eq a x)) [
            | inl here ↦
                let f : slice_get xs 0 ≡ Some id = grind arith in
                let rest = first-without xs id tail f in
                grind arith
            | inr later ↦
                let f : after a xs ≡ Some id = grind arith in
                let rest = after-without xs id a tail f in
                grind arith
          ]
    ]

-- and nothing else changes after the others
pub after-without_other : (xs : List ℕ) (id a : ℕ)
    → IsDistinct nat_eq xs → a ≢ id → (after a xs ≡ Some id → ⊥) → after a (without id xs) ≡ after a xs
after-without_other [] id a d ne nf = refl
after-without_other (x ∷ xs) id a d ne nf =
    let lacks = rest_lacks_first x xs d in
    let tail = rest_is_distinct x xs d in
    elim (cases_eq id x) [
      | inl same ↦
          let t = eq-eqb id x same in
          let u = ne_eqb a x (λ e. ne (e ∙ sym same)) in
          let rest = without-lacking xs id (ap (has xs) same ∙ lacks) in
          grind arith
      | inr other ↦
          let t = ne_eqb id x other in
          elim (cases_Bool (nat_eq a x)) [
            | inl here ↦
                let rest = first-without_other xs id (λ e. nf (grind arith)) in
                grind arith
            | inr later ↦
                let rest = after-without_other xs id a tail ne (λ e. nf (grind arith)) in
                grind arith
          ]
    ]
