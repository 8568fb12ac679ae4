-- What holds of all boxes and roots.
use Rattle.std.specs.Prelude.{ℕ, true, ◌≡◌, ◌↔◌, ◌≤ℤ◌, ◌<ℤ◌, ℤ, pos}
use Rattle.arena_geo.specs.declared.vec3.Vec3.{Vec3}
use Rattle.arena_geo.specs.Vectors.{vector, plus}
use Rattle.arena_geo.specs.Bounds.{Bounds, bounds, IsOrdered}
use Rattle.arena_geo.specs.Boxes.{overlaps, touches, contains, hull}
use Rattle.arena_geo.specs.Roots.{IsRoot, root_of}

-- the hull contains both boxes, and each box that contains both contains the hull
abbrev pub HullIsLeast : Type 0
HullIsLeast =
    (a b : Bounds) → (contains (hull a b) a ≡ true) × (contains (hull a b) b ≡ true)
    × ((c : Bounds) → contains c a ≡ true → contains c b ≡ true → contains c (hull a b) ≡ true)

-- the number lies between two others, which count too
pub record IsBetween (lo hi at : ℤ) : Type 0 where
  pub from : lo ≤ℤ at
  pub to : at ≤ℤ hi

-- the point lies in the box, the faces counted
pub record IsPointOf (b : Bounds) (p : Vec3) : Type 0 where
  pub x : IsBetween b.lo.x b.hi.x p.x
  pub y : IsBetween b.lo.y b.hi.y p.y
  pub z : IsBetween b.lo.z b.hi.z p.z

-- some point lies in both boxes
pub record HaveCommonPoint (a b : Bounds) : Type 0 where
  pub point : Vec3
  pub one : IsPointOf a point
  pub other : IsPointOf b point

-- boxes touch exactly where they have a common point, the faces counted
abbrev pub TouchIsCommonPoint : Type 0
TouchIsCommonPoint =
    (a b : Bounds) → IsOrdered a → IsOrdered b → (touches a b ≡ true) ↔ HaveCommonPoint a b

-- one box contains another exactly where each point of the other lies in it
abbrev pub ContainmentIsAllPoints : Type 0
ContainmentIsAllPoints =
    (a b : Bounds) → IsOrdered b → (contains a b ≡ true) ↔ ((p : Vec3) → IsPointOf b p → IsPointOf a p)

-- the box is longer than 0 on each axis
pub record HasInside (b : Bounds) : Type 0 where
  pub x : b.lo.x <ℤ b.hi.x
  pub y : b.lo.y <ℤ b.hi.y
  pub z : b.lo.z <ℤ b.hi.z

-- the cube of side 1 with this low corner
abbrev pub unit_cube : Vec3 → Bounds
unit_cube corner = bounds corner (plus corner (vector (pos 1) (pos 1) (pos 1)))

-- some cube of side 1 lies in both boxes
pub record HaveCommonCube (a b : Bounds) : Type 0 where
  pub corner : Vec3
  pub one : contains a (unit_cube corner) ≡ true
  pub other : contains b (unit_cube corner) ≡ true

-- boxes that have an inside overlap exactly where some cube of side 1 lies in both
abbrev pub OverlapIsCommonCube : Type 0
OverlapIsCommonCube =
    (a b : Bounds) → HasInside a → HasInside b → (overlaps a b ≡ true) ↔ HaveCommonCube a b

-- boxes that overlap touch
abbrev pub OverlapIsTouch : Type 0
OverlapIsTouch = (a b : Bounds) → overlaps a b ≡ true → touches a b ≡ true

-- a box touches each box that contains it
abbrev pub ContainedIsTouched : Type 0
ContainedIsTouched = (a b : Bounds) → IsOrdered b → contains a b ≡ true → touches a b ≡ true

-- the root of a number is the greatest number whose square is at most that number
abbrev pub RootIsGreatest : Type 0
RootIsGreatest = (n : ℕ) → IsRoot n (root_of n)
