-- What containing, touching and overlapping have to do with each other.
use Rattle.std.proofs.Common.{◌≡◌, ℤ, Bool, true, false, ◌&&◌, ◌≤ℤ◌, refl, arith}
use Rattle.std.specs.Cmp.Derive.{both_true}
use Rattle.std.specs.Int.{int_min, int_max}
use Rattle.std.proofs.lemmas.Int.{ints}
use Rattle.arena_geo.specs.Bounds.{Bounds}
use Rattle.arena_geo.specs.Boxes.{contains, hull, touches_on, contains_on}
use Rattle.arena_geo.specs.Laws.{HullIsLeast, OverlapIsTouch, ContainedIsTouched}

-- three tests pass
pub record ThreePass (a b c : Bool) : Type 0 where
  pub x : a ≡ true
  pub y : b ≡ true
  pub z : c ≡ true

pub three_pass : (a b c : Bool) → (a && b && c) ≡ true → ThreePass a b c
three_pass true true true h = record { x = refl; y = refl; z = refl }
three_pass true true false h = record { x = refl; y = refl; z = h }
three_pass true false c h = record { x = refl; y = h; z = cc }
three_pass false b c h = cc

pub all_three : {a b c : Bool} → a ≡ true → b ≡ true → c ≡ true → (a && b && c) ≡ true
all_three x y z = both_true (both_true x y) z

pub overlap_is_touch : OverlapIsTouch
overlap_is_touch a b h = grind (arith, ints)

touches_on-contained : (lo hi l h : ℤ) → l ≤ℤ h → contains_on lo hi l h ≡ true → touches_on lo hi l h ≡ true
touches_on-contained lo hi l h ordered contained = grind (arith, ints)

pub contained_is_touched : ContainedIsTouched
contained_is_touched a b ordered h =
    let t = three_pass _ _ _ h in
    all_three (touches_on-contained _ _ _ _ ordered.x t.x) (touches_on-contained _ _ _ _ ordered.y t.y) (touches_on-contained _ _ _ _ ordered.z t.z)

contains_on-hull_left : (lo hi l h : ℤ) → contains_on (int_min lo l) (int_max hi h) lo hi ≡ true
contains_on-hull_left lo hi l h = grind (arith, ints)

contains_on-hull_right : (lo hi l h : ℤ) → contains_on (int_min lo l) (int_max hi h) l h ≡ true
contains_on-hull_right lo hi l h = grind (arith, ints)

contains_on-hull : (lo hi l h low high : ℤ) → contains_on low high lo hi ≡ true → contains_on low high l h ≡ true
    → contains_on low high (int_min lo l) (int_max hi h) ≡ true
contains_on-hull lo hi l h low high one other = grind (arith, ints)

contains-hull : (a b c : Bounds) → contains c a ≡ true → contains c b ≡ true → contains c (hull a b) ≡ true
contains-hull a b c one other =
    let t = three_pass _ _ _ one in
    let u = three_pass _ _ _ other in
    all_three (contains_on-hull a.lo.x a.hi.x b.lo.x b.hi.x _ _ t.x u.x) (contains_on-hull a.lo.y a.hi.y b.lo.y b.hi.y _ _ t.y u.y) (contains_on-hull a.lo.z a.hi.z b.lo.z b.hi.z _ _ t.z u.z)

pub hull_is_least : HullIsLeast
hull_is_least a b = (
  all_three (contains_on-hull_left a.lo.x a.hi.x b.lo.x b.hi.x) (contains_on-hull_left a.lo.y a.hi.y b.lo.y b.hi.y) (contains_on-hull_left a.lo.z a.hi.z b.lo.z b.hi.z),
  all_three (contains_on-hull_right a.lo.x a.hi.x b.lo.x b.hi.x) (contains_on-hull_right a.lo.y a.hi.y b.lo.y b.hi.y) (contains_on-hull_right a.lo.z a.hi.z b.lo.z b.hi.z),
  contains-hull a b,
)
