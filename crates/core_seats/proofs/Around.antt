-- A box in which others lie.
use Rattle.std.proofs.Common.{◌≡◌, ℕ, ◌+◌, ◌<◌, ℤ, true, List, [], ◌∷◌, length, take, get_or, subst, inl, inr, arith}
use Rattle.std.specs.Prelude.{All}
use Rattle.std.proofs.lemmas.Bool.{or_cases, or_left, or_right}
use Rattle.std.proofs.lemmas.Int.{ints}
use Rattle.std.proofs.lemmas.List.Elements.{All-more, All-weaker}
use Rattle.arena_geo.specs.Bounds.{Bounds}
use Rattle.arena_geo.specs.Boxes.{contains, contains_on, hull}
use Rattle.arena_geo.specs.Regions.{is_inside}
use Rattle.arena_geo.proofs.Containment.{three_pass, all_three, hull_is_least}

contains_on-through : (lo hi l h low high : ℤ) → contains_on lo hi l h ≡ true → contains_on l h low high ≡ true → contains_on lo hi low high ≡ true
contains_on-through lo hi l h low high outer inner = grind (arith, ints)

contains-through : (a b c : Bounds) → contains a b ≡ true → contains b c ≡ true → contains a c ≡ true
contains-through a b c outer inner =
    let s = three_pass _ _ _ outer in
    let t = three_pass _ _ _ inner in
    all_three (contains_on-through a.lo.x a.hi.x b.lo.x b.hi.x c.lo.x c.hi.x s.x t.x) (contains_on-through a.lo.y a.hi.y b.lo.y b.hi.y c.lo.y c.hi.y s.y t.y)
    (contains_on-through a.lo.z a.hi.z b.lo.z b.hi.z c.lo.z c.hi.z s.z t.z)

-- the hull with one box more
pub one_more_inside : (boxes : List Bounds) (n : ℕ) (area one : Bounds) → n < length boxes → one ≡ get_or boxes n one → All (λ b. contains area b ≡ true) (take n boxes)
    → All (λ b. contains (hull area one) b ≡ true) (take (n + 1) boxes)
one_more_inside boxes n area one within one_is all =
    let P : Bounds → Type 0 = λ b. contains (hull area one) b ≡ true in
    let Q : Bounds → Type 0 = λ b. contains area b ≡ true in
    let least = hull_is_least area one in
    All-more P boxes n one within (All-weaker Q P (λ b inside. contains-through (hull area one) area b least.0 inside) (take n boxes) all) (subst P one_is least.1)

-- what lies in a box lies where it does
pub inside_through : (area b : Bounds) (region : List Bounds) → contains area b ≡ true → is_inside area region ≡ true → is_inside b region ≡ true
inside_through area b [] holds inside = inside
inside_through area b (one ∷ region) holds inside =
    elim (or_cases (contains one area) (is_inside area region) inside) [
      | inl here ↦ or_left _ _ (contains-through one area b here holds)
      | inr rest ↦ or_right _ _ (inside_through area b region holds rest)
    ]
