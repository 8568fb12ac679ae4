-- What a place is, and how many there are among the first so many spawns.
use Rattle.std.proofs.Common.{◌≡◌, ℕ, zero, suc, ◌+◌, ◌≤◌, ◌<◌, Bool, true, false, not, ◌&&◌, ◌||◌, cond, List, [], ◌∷◌, ◌++◌, length, get_or, take, Option, Some, None, refl, sym, ap, ◌∙◌, arith, length-append}
use Rattle.std.specs.Prelude.{All, AllPairs, filter}
use Rattle.std.specs.Option.{option_map_or}
use Rattle.std.specs.List.{list_any, range_with_len, slice_get}
use Rattle.std.proofs.lemmas.List.{get_or-take, length-take-le}
use Rattle.std.proofs.lemmas.List.Folds.{list_any_at, list_any_more}
use Rattle.std.proofs.lemmas.List.Elements.{filter-append, filter_passes}
use Rattle.std.proofs.lemmas.List.FromFn.{length-range_with_len, get_or-range_with_len}
use Rattle.std.proofs.lemmas.List.Kept.{AllPairs-filter}
use Rattle.std.proofs.lemmas.Option.{slice_get_within, slice_get-get_or}
use Rattle.arena_geo.specs.declared.vec3.Vec3.{Vec3}
use Rattle.arena_geo.specs.Vectors.{zero_vector}
use Rattle.arena_geo.specs.Bounds.{Bounds}
use Rattle.arena_geo.specs.Boxes.{overlaps, is_blocked}
use Rattle.entity_recs.specs.Bodies.{player_body}
use Rattle.arena_map.specs.Maps.{MapView, solids_of, entities_of}
use Rattle.demo_walk.specs.Places.{is_by_lift, is_by_spawn, is_place, places}

-- the spawn with this number, and the body of a player there
abbrev pub spawn_of : MapView → ℕ → Vec3
spawn_of m i = get_or m.spawns i zero_vector

abbrev pub body_at : MapView → ℕ → Bounds
body_at m i = player_body (spawn_of m i)

-- ---- tests on lists

-- where none passes, this one doesn't
pub none-passes : {X : Type 0} (p : X → Bool) (xs : List X) (i : ℕ) (d : X) → list_any p xs ≡ false → i < length xs → p (get_or xs i d) ≡ false
none-passes p xs i d none within = by (p (get_or xs i d)) refl
  where
    never : true ≡ false → ⊥
    never e = cc

    by : (passes : Bool) → p (get_or xs i d) ≡ passes → passes ≡ false
    by false e = refl
    by true e = absurd (never (sym (list_any_at p xs i d within e) ∙ none))

-- where none of the first n passes, this one of them doesn't
pub none-before : {X : Type 0} (p : X → Bool) (xs : List X) (n i : ℕ) (d : X) → list_any p (take n xs) ≡ false → i < n → n ≤ length xs
    → p (get_or xs i d) ≡ false
none-before p xs n i d none less within =
    ap p (sym (get_or-take n xs i d less)) ∙ none-passes p (take n xs) i d none (omega (arith, length-take-le n xs within, less))

-- whether one of the first i + 1 passes
pub any-more : {X : Type 0} (p : X → Bool) (xs : List X) (i : ℕ) (d : X) → i < length xs
    → list_any p (take (i + 1) xs) ≡ (list_any p (take i xs) || option_map_or p (slice_get xs i) false)
any-more p xs i d within =
    list_any_more p xs i d within
    ∙ ap (λ passes. list_any p (take i xs) || passes) (sym (ap (λ o. option_map_or p o false) (slice_get-get_or xs i d within)))

-- where the element at a place is there and passes, the list is that long
held-at : {X : Type 0} (p : X → Bool) (xs : List X) (i : ℕ) (d : X) → option_map_or p (slice_get xs i) false ≡ true
    → (i < length xs) × (p (get_or xs i d) ≡ true)
held-at {X} p xs i d h = by (slice_get xs i) refl h
  where
    by : (o : Option X) → slice_get xs i ≡ o → option_map_or p o false ≡ true → (i < length xs) × (p (get_or xs i d) ≡ true)
    by None e h = cc
    by (Some x) e h =
        let within = slice_get_within xs i x e in
        (within, sym (ap (λ o. option_map_or p o false) (slice_get-get_or xs i d within)) ∙ ap (λ o. option_map_or p o false) e ∙ h)

-- ---- how many pass

-- how many of the first so many numbers pass
abbrev pub passing : (ℕ → Bool) → ℕ → ℕ
passing p n = length (filter p (range_with_len 0 n))

range-more : (a n : ℕ) → range_with_len a (suc n) ≡ range_with_len a n ++ (a + n) ∷ []
range-more a zero = let e : a ≡ a + 0 = omega arith in ap (λ k. k ∷ []) e
range-more a (suc n) =
    let e : a + 1 + n ≡ a + suc n = omega arith in
    ap (λ more. a ∷ more) (range-more (a + 1) n ∙ ap (λ k. range_with_len (a + 1) n ++ k ∷ []) e)

pub passing-more : (p : ℕ → Bool) (n : ℕ) → passing p (suc n) ≡ passing p n + cond (p n) 1 0
passing-more p n =
    let numbers = range_with_len 0 n in
    let same : 0 + n ≡ n = omega arith in
    let parts = ap length (ap (filter p) (range-more 0 n ∙ ap (λ k. numbers ++ k ∷ []) same) ∙ filter-append p numbers (n ∷ [])) in
    omega (arith, parts, length-append (filter p numbers) (filter p (n ∷ [])), one (p n))
  where
    one : (passes : Bool) → length (cond passes (n ∷ []) []) ≡ cond passes 1 0
    one true = refl
    one false = refl

-- ---- the parts of a place

split-and : (a b : Bool) → (a && b) ≡ true → (a ≡ true) × (b ≡ true)
split-and true b h = (refl, h)
split-and false b h = cc

not-true : (b : Bool) → not b ≡ true → b ≡ false
not-true false h = refl
not-true true h = cc

-- what a place is, at its spawn
pub record IsPlaceAt (m : MapView) (q : ℕ) : Type 0 where
  pub within : q < length m.spawns
  pub open_ : is_blocked (body_at m q) (solids_of m) ≡ false
  pub no_lift : list_any (is_by_lift (body_at m q)) (entities_of m) ≡ false
  pub first : (i : ℕ) → i < q → overlaps (body_at m q) (body_at m i) ≡ false

pub place-at : (m : MapView) (q : ℕ) → is_place m q ≡ true → IsPlaceAt m q
place-at m q is =
    let held = held-at _ m.spawns q zero_vector is in
    let parts = split-and _ _ held.1 in
    let ground = split-and _ _ parts.0 in
    record {
      within = held.0;
      open_ = not-true _ ground.0;
      no_lift = not-true _ ground.1;
      first = λ i less.
          none-before (is_by_spawn (body_at m q)) m.spawns _ i zero_vector (not-true _ parts.1) (omega (arith, less, held.0)) (omega (arith, held.0));
    }

-- ---- the list of places

range-rising : (a n : ℕ) → AllPairs (λ i j. i < j) (range_with_len a n)
range-rising a n i j d less within =
    let count = length-range_with_len a n in
    omega (arith, less, get_or-range_with_len a n i d (omega (arith, less, within, count)), get_or-range_with_len a n j d (omega (arith, within, count)))

-- the numbers of the places rise
pub places-rising : (m : MapView) → AllPairs (λ i j. i < j) (places m)
places-rising m = AllPairs-filter (λ i j. i < j) (is_place m) _ (range-rising 0 _)

-- each is that of a place
pub places-pass : (m : MapView) → All (λ i. is_place m i ≡ true) (places m)
places-pass m = filter_passes (is_place m) _
