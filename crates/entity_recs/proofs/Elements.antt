-- Which elements lists have, of filters and of maps too; a list whose keys rise is determined by its elements.
use Rattle.std.specs.Prelude.{◌≡◌, ℕ, zero, suc, ◌<◌, Bool, true, List, [], ◌∷◌, map, filter, Contains, slice_index_or}
use Rattle.std.specs.List.{AllPairs}
use Rattle.std.specs.List.Sorted.{IsStrictlyIncreasing}
use Rattle.std.proofs.Common.{refl, sym, ap, ◌∙◌, subst, inl, inr, ◌⊎◌, arith}
use Rattle.std.proofs.Math.ListN.{get_or-map}
use Rattle.std.proofs.lemmas.Bool.{cases_Bool}
use Rattle.std.proofs.lemmas.List.{length-map}
use Rattle.std.proofs.lemmas.List.Elements.{All-contains, filter_passes}
use Rattle.std.proofs.lemmas.List.Kept.{AllPairs-from_increasing}

module _ {X : Type 0} where
  -- an element is the first or one of the others
  pub contains_cases : (x y : X) (ys : List X) → Contains (y ∷ ys) x → (y ≡ x) ⊎ Contains ys x
  contains_cases x y ys (zero, within, at) = inl at
  contains_cases x y ys (suc k, within, at) = inr (k, omega (arith, within), at)

  pub contains_first : (x : X) (xs : List X) → Contains (x ∷ xs) x
  contains_first x xs = (0, omega arith, refl)

  pub contains_later : (x y : X) (ys : List X) → Contains ys x → Contains (y ∷ ys) x
  contains_later x y ys (k, within, at) = (suc k, omega (arith, within), at)

  pub contains_none : {R : Type 0} (x : X) → Contains [] x → R
  contains_none x (k, within, at) = absurd (omega (arith, within))

  -- what passes the test is kept
  pub contains_kept : (p : X → Bool) (xs : List X) (x : X) → Contains xs x → p x ≡ true → Contains (filter p xs) x
  contains_kept p [] x has passes = contains_none x has
  contains_kept p (y ∷ ys) x has passes = elim (contains_cases x y ys has) [
    | inl same ↦
        let here : p y ≡ true = ap p same ∙ passes in
        rw here (subst (Contains (y ∷ filter p ys)) same (contains_first y (filter p ys)))
    | inr later ↦
        let kept = contains_kept p ys x later passes in
        elim (cases_Bool (p y)) [
          | inl e ↦ rw e (contains_later x y (filter p ys) kept)
          | inr e ↦ rw e kept
        ]
  ]

  -- what is kept was there
  pub contains_before : (p : X → Bool) (xs : List X) (x : X) → Contains (filter p xs) x → Contains xs x
  contains_before p [] x has = contains_none x has
  contains_before p (y ∷ ys) x has = elim (cases_Bool (p y)) [
    | inl e ↦ elim (contains_cases x y (filter p ys) (rw e at has)) [
      | inl same ↦ subst (Contains (y ∷ ys)) same (contains_first y ys)
      | inr later ↦ contains_later x y ys (contains_before p ys x later)
    ]
    | inr e ↦ contains_later x y ys (contains_before p ys x (rw e at has))
  ]

  -- and it passes the test
  pub kept_passes : (p : X → Bool) (xs : List X) (x : X) → Contains (filter p xs) x → p x ≡ true
  kept_passes p xs x has = All-contains (λ y. p y ≡ true) (filter p xs) x (filter_passes p xs) has

-- an element of which a function gives this one
pub record ComesFrom {X Y : Type 0} (f : X → Y) (xs : List X) (y : Y) : Type 0 where
  pub from : X
  pub has : Contains xs from
  pub gives : f from ≡ y

module _ {X Y : Type 0} (f : X → Y) where
  -- what a function gives of an element is one of what it gives
  pub contains_map : (xs : List X) (x : X) → Contains xs x → Contains (map f xs) (f x)
  contains_map [] x has = contains_none x has
  contains_map (y ∷ ys) x has = elim (contains_cases x y ys has) [
    | inl same ↦ subst (λ (z : X). Contains (f y ∷ map f ys) (f z)) same (contains_first (f y) (map f ys))
    | inr later ↦ contains_later (f x) (f y) (map f ys) (contains_map ys x later)
  ]

  -- and each is given of an element
  pub comes_from : (xs : List X) (y : Y) → Contains (map f xs) y → ComesFrom f xs y
  comes_from [] y has = contains_none y has
  comes_from (x ∷ xs) y has = elim (contains_cases y (f x) (map f xs) has) [
    | inl same ↦ record { from = x; has = contains_first x xs; gives = same }
    | inr later ↦
        let rest = comes_from xs y later in
        record { from = rest.from; has = contains_later rest.from x xs rest.has; gives = rest.gives }
  ]

-- the keys of a list rise
abbrev pub HasRisingKeys : {X : Type 0} → (X → ℕ) → List X → Type 0
HasRisingKeys key xs = AllPairs (λ a b. key a < key b) xs

module _ {X : Type 0} (key : X → ℕ) where
  -- the keys, as a list, rise
  pub rising_keys : (xs : List X) → IsStrictlyIncreasing (map key xs) → HasRisingKeys key xs
  rising_keys xs rises i j d below within =
      let long = length-map xs key in
      let less = AllPairs-from_increasing (map key xs) rises i j (key d) below (omega (arith, long, within)) in
      subst (λ (n : ℕ). n < key (slice_index_or xs j d)) (get_or-map key xs i d)
      (subst (λ (n : ℕ). slice_index_or (map key xs) i (key d) < n) (get_or-map key xs j d) less)

  -- the first key is below all others
  first_below : (x y : X) (xs : List X) → HasRisingKeys key (x ∷ xs) → Contains xs y → key x < key y
  first_below x y xs rises (k, within, at) =
      subst (λ (z : X). key x < key z) at (rises 0 (suc k) y (omega arith) (omega (arith, within)))

  rest_rises : (x : X) (xs : List X) → HasRisingKeys key (x ∷ xs) → HasRisingKeys key xs
  rest_rises x xs rises = λ i j d below within. rises (suc i) (suc j) d (omega (arith, below)) (omega (arith, within))

  -- two lists with the same elements begin with the same
  same_first : (x y : X) (xs ys : List X) → HasRisingKeys key (x ∷ xs) → HasRisingKeys key (y ∷ ys) → Contains (y ∷ ys) x
      → Contains (x ∷ xs) y → x ≡ y
  same_first x y xs ys up_x up_y has_x has_y = elim (contains_cases x y ys has_x) [
    | inl same ↦ sym same
    | inr later ↦ elim (contains_cases y x xs has_y) [
      | inl same ↦ same
      | inr later_y ↦
          let a = first_below y x ys up_y later in
          let b = first_below x y xs up_x later_y in
          absurd (omega (arith, a, b))
    ]
  ]

  -- the others are the same
  in_rest : (x y z : X) (xs ys : List X) → HasRisingKeys key (x ∷ xs) → x ≡ y → Contains (y ∷ ys) z → Contains xs z
      → Contains ys z
  in_rest x y z xs ys rises same has there = elim (contains_cases z y ys has) [
    | inl is ↦
        let below = first_below x z xs rises there in
        let keys : key x ≡ key z = ap key (same ∙ is) in
        absurd (omega (arith, below, keys))
    | inr later ↦ later
  ]

  -- two lists whose keys rise, with the same elements, are one list
  pub same_list : (xs ys : List X) → HasRisingKeys key xs → HasRisingKeys key ys → ((x : X) → Contains xs x → Contains ys x)
      → ((y : X) → Contains ys y → Contains xs y) → xs ≡ ys
  same_list [] [] up_x up_y to from = refl
  same_list [] (y ∷ ys) up_x up_y to from = contains_none y (from y (contains_first y ys))
  same_list (x ∷ xs) [] up_x up_y to from = contains_none x (to x (contains_first x xs))
  same_list (x ∷ xs) (y ∷ ys) up_x up_y to from =
      let first = same_first x y xs ys up_x up_y (to x (contains_first x xs)) (from y (contains_first y ys)) in
      let rest = same_list xs ys (rest_rises x xs up_x) (rest_rises y ys up_y)
      (λ z has. in_rest x y z xs ys up_x first (to z (contains_later z x xs has)) has)
      (λ z has. in_rest y x z ys xs up_y (sym first) (from z (contains_later z y ys has)) has) in
      cc
