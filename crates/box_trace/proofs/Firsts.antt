-- The first element that passes a test.
use Rattle.std.proofs.Common.{◌≡◌, ℕ, ◌+◌, ◌<◌, ◌≤◌, Bool, false, cond, not, eqb, nat_lt, List, [], ◌∷◌, ◌++◌, length, get_or, Option, Some, None, position, find, slice_get, refl, sym, ap, ◌∙◌, arith, length-append}
use Rattle.std.specs.List.{list_any, position_or_len}
use Rattle.std.proofs.lemmas.Bool.Decides.{nat_tests}
use Rattle.std.proofs.lemmas.Option.{slice_get_read}
use Rattle.std.proofs.lemmas.List.Sums.{fails_before_first}
use Rattle.std.proofs.lemmas.List.Folds.{prefix_len-append, find-append, list_any_none, find_at}
use Rattle.std.proofs.lemmas.Bool.{or_parts}

-- the place n of the first of so many, as `position` gives it
place : ℕ → ℕ → Option ℕ
place n len = cond (nat_lt n len) (Some n) None

place_within : (n len i : ℕ) → place n len ≡ Some i → (i < len) × (n ≡ i)
unfolding place
place_within n len i h = grind (arith, nat_tests)

place_beyond : (n len : ℕ) → place n len ≡ None → len ≤ n
unfolding place
place_beyond n len h = grind (arith, nat_tests)

-- the place in two lists, whose first passing elements are at n and m
place_front : (n m len more i joined total : ℕ) → joined ≡ cond (eqb n len) (len + m) n → total ≡ len + more
    → place n len ≡ Some i → place joined total ≡ Some i
unfolding place
place_front n m len more i joined total joined_is total_is found = grind (arith, nat_tests)

place_back : (n m len more i joined total : ℕ) → joined ≡ cond (eqb n len) (len + m) n → total ≡ len + more → n ≡ len
    → place m more ≡ Some i → place joined total ≡ Some (len + i)
unfolding place
place_back n m len more i joined total joined_is total_is none found = grind (arith, nat_tests)

module _ {X : Type 0} (p : X → Bool) where
  pub list_any_where_none : (xs : List X) → position p xs ≡ None → list_any p xs ≡ false
  unfolding place
  list_any_where_none xs none =
      let beyond = place_beyond (position_or_len p xs) (length xs) none in
      list_any_none p xs (λ k d h. fails_before_first p xs k d (omega arith))

  pub find-Some : (xs : List X) (i : ℕ) (x : X) → position p xs ≡ Some i → x ≡ get_or xs i x → find p xs ≡ Some x
  unfolding place
  find-Some xs i x found x_is =
      let at = place_within (position_or_len p xs) (length xs) i found in
      find_at p xs ∙ ap (slice_get xs) at.1 ∙ slice_get_read xs (length xs) i x refl at.0 x_is

  -- the place and the element belong together
  pub slice_get_first : (xs : List X) (i : ℕ) (x : X) → position p xs ≡ Some i → find p xs ≡ Some x
      → slice_get xs i ≡ Some x
  unfolding place
  slice_get_first xs i x at_place found =
      let at = place_within (position_or_len p xs) (length xs) i at_place in
      ap (slice_get xs) (sym at.1) ∙ sym (find_at p xs) ∙ found

  position_or_len_where_none : (xs : List X) → list_any p xs ≡ false → position_or_len p xs ≡ length xs
  position_or_len_where_none [] none = refl
  position_or_len_where_none (x ∷ xs) none =
      let t = or_parts (p x) (list_any p xs) none in
      rw t.0 (omega (arith, position_or_len_where_none xs t.1))

  pub find_where_none : (xs : List X) → list_any p xs ≡ false → find p xs ≡ None
  find_where_none [] none = refl
  find_where_none (x ∷ xs) none = let t = or_parts (p x) (list_any p xs) none in rw t.0 (find_where_none xs t.1)

  -- the first of two lists is the first of the former, where that has one
  pub position-append_front : (xs ys : List X) (i : ℕ) → position p xs ≡ Some i → position p (xs ++ ys) ≡ Some i
  unfolding place
  position-append_front xs ys i found =
      place_front (position_or_len p xs) (position_or_len p ys) (length xs) (length ys) i (position_or_len p (xs ++ ys)) (length (xs ++ ys)) (prefix_len-append (λ x. not (p x)) xs ys) (length-append xs ys) found

  -- and else the first of the latter
  pub position-append_back : (xs ys : List X) (i : ℕ) → list_any p xs ≡ false → position p ys ≡ Some i
      → position p (xs ++ ys) ≡ Some (length xs + i)
  unfolding place
  position-append_back xs ys i none found =
      place_back (position_or_len p xs) (position_or_len p ys) (length xs) (length ys) i (position_or_len p (xs ++ ys)) (length (xs ++ ys)) (prefix_len-append (λ x. not (p x)) xs ys) (length-append xs ys) (position_or_len_where_none xs none) found

  pub find-append_front : (xs ys : List X) (x : X) → find p xs ≡ Some x → find p (xs ++ ys) ≡ Some x
  find-append_front xs ys x found = rw find-append (rw found refl)

  pub find-append_back : (xs ys : List X) (x : X) → list_any p xs ≡ false → find p ys ≡ Some x
      → find p (xs ++ ys) ≡ Some x
  find-append_back xs ys x none found = rw find-append (rw (find_where_none xs none, found) refl)
