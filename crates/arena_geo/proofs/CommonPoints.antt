-- Which points and cubes boxes have in common.
use Rattle.std.proofs.Common.{◌≡◌, ℤ, pos, true, ◌+ℤ◌, ◌≤ℤ◌, ◌<ℤ◌, arith}
use Rattle.std.specs.Int.{int_max}
use Rattle.std.proofs.lemmas.Int.{ints}
use Rattle.arena_geo.specs.declared.vec3.Vec3.{Vec3}
use Rattle.arena_geo.specs.Vectors.{greatest}
use Rattle.arena_geo.specs.Bounds.{Bounds, IsOrdered}
use Rattle.arena_geo.specs.Boxes.{touches, touches_on, contains, contains_on, overlaps, overlaps_on}
use Rattle.arena_geo.specs.Laws.{IsBetween, IsPointOf, HaveCommonPoint, TouchIsCommonPoint, ContainmentIsAllPoints, HasInside, HaveCommonCube, OverlapIsCommonCube}
use Rattle.arena_geo.proofs.Containment.{three_pass, all_three}

-- the greater of the two beginnings lies in the first interval
in_first : (lo hi l h : ℤ) → lo ≤ℤ hi → touches_on lo hi l h ≡ true → IsBetween lo hi (int_max lo l)
in_first lo hi l h ordered touch = record { from = grind (arith, ints); to = grind (arith, ints) }

-- and in the second
in_second : (lo hi l h : ℤ) → l ≤ℤ h → touches_on lo hi l h ≡ true → IsBetween l h (int_max lo l)
in_second lo hi l h ordered touch = record { from = grind (arith, ints); to = grind (arith, ints) }

-- intervals with a common number touch
touches_at : (lo hi l h at : ℤ) → IsBetween lo hi at → IsBetween l h at → touches_on lo hi l h ≡ true
touches_at lo hi l h at one other =
    let a = one.from in
    let b = one.to in
    let c = other.from in
    let d = other.to in
    grind (arith, ints)

has_common_point : (a b : Bounds) → IsOrdered a → IsOrdered b → touches a b ≡ true → HaveCommonPoint a b
has_common_point a b ordered other_ordered touch =
    let t = three_pass _ _ _ touch in
    record {
      point = greatest a.lo b.lo;
      one = record {
        x = in_first a.lo.x a.hi.x b.lo.x b.hi.x ordered.x t.x;
        y = in_first a.lo.y a.hi.y b.lo.y b.hi.y ordered.y t.y;
        z = in_first a.lo.z a.hi.z b.lo.z b.hi.z ordered.z t.z;
      };
      other = record {
        x = in_second a.lo.x a.hi.x b.lo.x b.hi.x other_ordered.x t.x;
        y = in_second a.lo.y a.hi.y b.lo.y b.hi.y other_ordered.y t.y;
        z = in_second a.lo.z a.hi.z b.lo.z b.hi.z other_ordered.z t.z;
      };
    }

touches_there : (a b : Bounds) → HaveCommonPoint a b → touches a b ≡ true
touches_there a b common =
    all_three
    (touches_at a.lo.x a.hi.x b.lo.x b.hi.x common.point.x common.one.x common.other.x)
    (touches_at a.lo.y a.hi.y b.lo.y b.hi.y common.point.y common.one.y common.other.y)
    (touches_at a.lo.z a.hi.z b.lo.z b.hi.z common.point.z common.one.z common.other.z)

pub touch_is_common_point : TouchIsCommonPoint
touch_is_common_point a b ordered other_ordered = (has_common_point a b ordered other_ordered, touches_there a b)

-- ---- containment
between_contained : (lo hi l h at : ℤ) → contains_on lo hi l h ≡ true → IsBetween l h at → IsBetween lo hi at
between_contained lo hi l h at contained between =
    let low = between.from in
    let high = between.to in
    record { from = grind (arith, ints); to = grind (arith, ints) }

contained_from_ends : (lo hi l h : ℤ) → IsBetween lo hi l → IsBetween lo hi h → contains_on lo hi l h ≡ true
contained_from_ends lo hi l h first last =
    let low = first.from in
    let high = last.to in
    grind (arith, ints)

between_from : (l h : ℤ) → l ≤ℤ h → IsBetween l h l
between_from l h ordered = record { from = omega (arith, ints); to = ordered }

between_to : (l h : ℤ) → l ≤ℤ h → IsBetween l h h
between_to l h ordered = record { from = ordered; to = omega (arith, ints) }

points_contained : (a b : Bounds) → contains a b ≡ true → (p : Vec3) → IsPointOf b p → IsPointOf a p
points_contained a b h p point =
    let t = three_pass _ _ _ h in
    record {
      x = between_contained a.lo.x a.hi.x b.lo.x b.hi.x p.x t.x point.x;
      y = between_contained a.lo.y a.hi.y b.lo.y b.hi.y p.y t.y point.y;
      z = between_contained a.lo.z a.hi.z b.lo.z b.hi.z p.z t.z point.z;
    }

low_corner : (b : Bounds) → IsOrdered b → IsPointOf b b.lo
low_corner b ordered = record {
  x = between_from b.lo.x b.hi.x ordered.x;
  y = between_from b.lo.y b.hi.y ordered.y;
  z = between_from b.lo.z b.hi.z ordered.z;
}

high_corner : (b : Bounds) → IsOrdered b → IsPointOf b b.hi
high_corner b ordered = record {
  x = between_to b.lo.x b.hi.x ordered.x;
  y = between_to b.lo.y b.hi.y ordered.y;
  z = between_to b.lo.z b.hi.z ordered.z;
}

contains_corners : (a b : Bounds) → IsPointOf a b.lo → IsPointOf a b.hi → contains a b ≡ true
contains_corners a b low high =
    all_three
    (contained_from_ends a.lo.x a.hi.x b.lo.x b.hi.x low.x high.x)
    (contained_from_ends a.lo.y a.hi.y b.lo.y b.hi.y low.y high.y)
    (contained_from_ends a.lo.z a.hi.z b.lo.z b.hi.z low.z high.z)

pub containment_is_all_points : ContainmentIsAllPoints
containment_is_all_points a b ordered = (
  points_contained a b,
  λ each. contains_corners a b (each b.lo (low_corner b ordered)) (each b.hi (high_corner b ordered)),
)

-- ---- overlapping
-- from the greater of the two beginnings the first interval has a length of 1 left
unit_in_first : (lo hi l h : ℤ) → lo <ℤ hi → overlaps_on lo hi l h ≡ true
    → contains_on lo hi (int_max lo l) (int_max lo l +ℤ pos 1) ≡ true
unit_in_first lo hi l h long overlap = grind (arith, ints)

-- and so has the second
unit_in_second : (lo hi l h : ℤ) → l <ℤ h → overlaps_on lo hi l h ≡ true
    → contains_on l h (int_max lo l) (int_max lo l +ℤ pos 1) ≡ true
unit_in_second lo hi l h long overlap = grind (arith, ints)

-- intervals with a common interval of length 1 overlap
overlaps_at : (lo hi l h at : ℤ) → contains_on lo hi at (at +ℤ pos 1) ≡ true → contains_on l h at (at +ℤ pos 1) ≡ true
    → overlaps_on lo hi l h ≡ true
overlaps_at lo hi l h at one other = grind (arith, ints)

has_common_cube : (a b : Bounds) → HasInside a → HasInside b → overlaps a b ≡ true → HaveCommonCube a b
has_common_cube a b long other_long overlap =
    let t = three_pass _ _ _ overlap in
    record {
      corner = greatest a.lo b.lo;
      one = all_three
          (unit_in_first a.lo.x a.hi.x b.lo.x b.hi.x long.x t.x)
          (unit_in_first a.lo.y a.hi.y b.lo.y b.hi.y long.y t.y)
          (unit_in_first a.lo.z a.hi.z b.lo.z b.hi.z long.z t.z);
      other = all_three
          (unit_in_second a.lo.x a.hi.x b.lo.x b.hi.x other_long.x t.x)
          (unit_in_second a.lo.y a.hi.y b.lo.y b.hi.y other_long.y t.y)
          (unit_in_second a.lo.z a.hi.z b.lo.z b.hi.z other_long.z t.z);
    }

overlaps_there : (a b : Bounds) → HaveCommonCube a b → overlaps a b ≡ true
overlaps_there a b common =
    let t = three_pass _ _ _ common.one in
    let u = three_pass _ _ _ common.other in
    all_three
    (overlaps_at a.lo.x a.hi.x b.lo.x b.hi.x common.corner.x t.x u.x)
    (overlaps_at a.lo.y a.hi.y b.lo.y b.hi.y common.corner.y t.y u.y)
    (overlaps_at a.lo.z a.hi.z b.lo.z b.hi.z common.corner.z t.z u.z)

pub overlap_is_common_cube : OverlapIsCommonCube
overlap_is_common_cube a b long other_long = (has_common_cube a b long other_long, overlaps_there a b)
