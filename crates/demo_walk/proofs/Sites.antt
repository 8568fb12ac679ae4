-- Which places are taken: there are no more of them than players.
use Rattle.std.proofs.Common.{◌≡◌, ℕ, suc, ◌+◌, ◌-◌, ◌≤◌, ◌<◌, Bool, true, false, ◌||◌, eqb, List, [], ◌∷◌, ◌++◌, length, refl, arith}
use Rattle.std.specs.Prelude.{min, All, AllPairs}
use Rattle.std.proofs.lemmas.List.Elements.{All-head, All-tail, All-weaker}
use Rattle.std.proofs.lemmas.Bool.Decides.{nat_tests}
use Rattle.arena_map.specs.Maps.{MapView}
use Rattle.demo_walk.specs.Places.{is_place, places, places_of}
use Rattle.demo_walk.proofs.PlaceParts.{places-rising, places-pass}

-- the number is one of these
abbrev pub taken : List ℕ → ℕ → Bool
taken [] i = false
taken (s ∷ sites) i = eqb s i || taken sites i

-- how many of these are below a number
abbrev pub below : List ℕ → ℕ → ℕ
below [] n = 0
below (s ∷ sites) n = min 1 (n - s) + below sites n

pub below-few : (sites : List ℕ) (n : ℕ) → below sites n ≤ length sites
below-few [] n = omega arith
below-few (s ∷ sites) n = omega (arith, below-few sites n)

below-more : (sites : List ℕ) (n : ℕ) → below sites n ≤ below sites (suc n)
below-more [] n = omega arith
below-more (s ∷ sites) n = omega (arith, below-more sites n)

below-taken : (sites : List ℕ) (n : ℕ) → taken sites n ≡ true → below sites n + 1 ≤ below sites (suc n)
below-taken [] n is = absurd (never is)
  where
    never : false ≡ true → ⊥
    never e = cc
below-taken (s ∷ sites) n is = by (eqb s n) refl is (λ h. below-taken sites n h)
  where
    by : (here : Bool) → eqb s n ≡ here → (here || taken sites n) ≡ true → (taken sites n ≡ true → below sites n + 1 ≤ below sites (suc n))
        → min 1 (n - s) + below sites n + 1 ≤ min 1 (suc n - s) + below sites (suc n)
    by true e h next = let at : s ≡ n = grind (arith, nat_tests) in omega (arith, at, below-more sites n)
    by false e h next = omega (arith, next h)

below-rises : (sites : List ℕ) (low n : ℕ) → low ≤ n → below sites low ≤ below sites n
below-rises [] low n h = omega arith
below-rises (s ∷ sites) low n h = omega (arith, h, below-rises sites low n h)

-- rising numbers from low on that are all taken are no more than the sites from low on
taken-few : (sites ps : List ℕ) (low : ℕ) → AllPairs (λ i j. i < j) ps → All (λ q. low ≤ q) ps → All (λ q. taken sites q ≡ true) ps
    → length ps + below sites low ≤ length sites
taken-few sites [] low rising least each = omega (arith, below-few sites low)
taken-few sites (q ∷ ps) low rising least each =
    let rest = taken-few sites ps (suc q) (λ i j d less within. rising (suc i) (suc j) d (omega (arith, less)) (omega (arith, within)))
    (λ j d within. rising 0 (suc j) d (omega arith) (omega (arith, within)))
    (All-tail (λ q. taken sites q ≡ true) q ps each) in
    let from : low ≤ q = All-head (λ q. low ≤ q) q ps least in
    omega (arith, rest, below-rises sites low q from, below-taken sites q (All-head (λ q. taken sites q ≡ true) q ps each))

-- where each place is taken, there are no more places than sites
pub places-taken : (m : MapView) (sites : List ℕ) → ((q : ℕ) → is_place m q ≡ true → taken sites q ≡ true) → places_of m ≤ length sites
places-taken m sites each =
    let few = taken-few sites (places m) 0 (places-rising m) (λ j d within. omega arith)
    (All-weaker (λ q. is_place m q ≡ true) (λ q. taken sites q ≡ true) each (places m) (places-pass m)) in
    omega (arith, few)

-- one site more
pub taken-more : (sites : List ℕ) (i q : ℕ) → taken (sites ++ i ∷ []) q ≡ (taken sites q || eqb i q)
taken-more [] i q = by (eqb i q)
  where
    by : (here : Bool) → (here || false) ≡ (false || here)
    by true = refl
    by false = refl
taken-more (s ∷ sites) i q = by (eqb s q) (taken-more sites i q)
  where
    by : (here : Bool) → taken (sites ++ i ∷ []) q ≡ (taken sites q || eqb i q) → (here || taken (sites ++ i ∷ []) q) ≡ ((here || taken sites q) || eqb i q)
    by true so = refl
    by false so = so
