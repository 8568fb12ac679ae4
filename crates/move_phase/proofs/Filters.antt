-- What filters and maps keep.
use Rattle.std.specs.Prelude.{◌≡◌, Bool, true, List, [], ◌∷◌, map, filter, Contains}
use Rattle.std.proofs.Common.{refl, subst, inl, inr}
use Rattle.std.proofs.lemmas.Bool.{cases_Bool}
use Rattle.move_phase.proofs.Rising.{contains_cases, contains_first, contains_later, contains_none}

module _ {X Y : Type 0} (f : X → Y) where
  -- what a function gives of an element is one of what it gives
  pub contains_map : (xs : List X) (x : X) → Contains xs x → Contains (map f xs) (f x)
  contains_map [] x has = contains_none x has
  contains_map (y ∷ ys) x has = elim (contains_cases x y ys has) [
    | inl same ↦ subst (λ (z : X). Contains (f y ∷ map f ys) (f z)) same (contains_first (f y) (map f ys))
    | inr later ↦ contains_later (f x) (f y) (map f ys) (contains_map ys x later)
  ]

  -- a test on what the function gives keeps what the function gives of the elements that pass
  pub filter_map_same : (q : Y → Bool) (xs : List X) → filter q (map f xs) ≡ map f (filter (λ x. q (f x)) xs)
  filter_map_same q [] = refl
  filter_map_same q (x ∷ xs) =
      let tail = filter_map_same q xs in
      elim (cases_Bool (q (f x))) [ inl e ↦ rw e (cc) | inr e ↦ rw e tail ]

module _ {X : Type 0} where
  -- of two tests the weaker one changes nothing
  pub filter_within : (q r : X → Bool) → ((x : X) → q x ≡ true → r x ≡ true) → (xs : List X) → filter q (filter r xs) ≡ filter q xs
  filter_within q r weaker [] = refl
  filter_within q r weaker (x ∷ xs) =
      let tail = filter_within q r weaker xs in
      elim (cases_Bool (q x)) [
        | inl e ↦ let passes = weaker x e in rw (passes, e) (cc)
        | inr e ↦ elim (cases_Bool (r x)) [ inl passes ↦ rw (passes, e) tail | inr fails ↦ rw (fails, e) tail ]
      ]

  -- a test that all pass keeps all
  pub filter_whole : (p : X → Bool) → ((x : X) → p x ≡ true) → (xs : List X) → filter p xs ≡ xs
  filter_whole p passes [] = refl
  filter_whole p passes (x ∷ xs) =
      let tail = filter_whole p passes xs in
      let here = passes x in
      rw here (cc)
