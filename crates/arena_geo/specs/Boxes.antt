-- The tests and the operations on boxes, by their formulas.
use Rattle.std.specs.Prelude.{Bool, ◌&&◌, List, ℤ, int_lt, int_le}
use Rattle.std.specs.List.{list_any}
use Rattle.arena_geo.specs.declared.vec3.Vec3.{Vec3}
use Rattle.arena_geo.specs.Vectors.{plus, minus, least, greatest}
use Rattle.arena_geo.specs.Bounds.{Bounds}

-- each of two intervals begins strictly before the other ends
abbrev pub overlaps_on : ℤ → ℤ → ℤ → ℤ → Bool
overlaps_on lo hi other_lo other_hi = int_lt lo other_hi && int_lt other_lo hi

-- neither of two intervals begins after the other ends
abbrev pub touches_on : ℤ → ℤ → ℤ → ℤ → Bool
touches_on lo hi other_lo other_hi = int_le lo other_hi && int_le other_lo hi

-- the second interval lies in the first, the ends counted as inside
abbrev pub contains_on : ℤ → ℤ → ℤ → ℤ → Bool
contains_on lo hi other_lo other_hi = int_le lo other_lo && int_le other_hi hi

-- on each axis each begins strictly before the other ends
abbrev pub overlaps : Bounds → Bounds → Bool
overlaps a b =
    overlaps_on a.lo.x a.hi.x b.lo.x b.hi.x
    && overlaps_on a.lo.y a.hi.y b.lo.y b.hi.y
    && overlaps_on a.lo.z a.hi.z b.lo.z b.hi.z

-- on each axis neither begins after the other ends: they have a common point
abbrev pub touches : Bounds → Bounds → Bool
touches a b =
    touches_on a.lo.x a.hi.x b.lo.x b.hi.x
    && touches_on a.lo.y a.hi.y b.lo.y b.hi.y
    && touches_on a.lo.z a.hi.z b.lo.z b.hi.z

-- the second lies in the first, the faces counted as inside
abbrev pub contains : Bounds → Bounds → Bool
contains a b =
    contains_on a.lo.x a.hi.x b.lo.x b.hi.x
    && contains_on a.lo.y a.hi.y b.lo.y b.hi.y
    && contains_on a.lo.z a.hi.z b.lo.z b.hi.z

-- the box, larger by this much on both sides of each axis
abbrev pub box_grown_by : Bounds → Vec3 → Bounds
box_grown_by b by = record { lo = minus b.lo by; hi = plus b.hi by }

-- the box, elsewhere
abbrev pub box_moved_by : Bounds → Vec3 → Bounds
box_moved_by b by = record { lo = plus b.lo by; hi = plus b.hi by }

-- from the least low corner to the greatest high one
abbrev pub hull : Bounds → Bounds → Bounds
hull a b = record { lo = least a.lo b.lo; hi = greatest a.hi b.hi }

-- some solid overlaps the body
abbrev pub is_blocked : Bounds → List Bounds → Bool
is_blocked body solids = list_any (overlaps body) solids
