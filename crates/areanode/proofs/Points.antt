-- Which points of an area are in its parts.
use Rattle.std.proofs.Common.{ℤ, ◌≤ℤ◌, ◌↔◌, arith}
use Rattle.std.proofs.lemmas.Int.{ints}
use Rattle.arena_geo.specs.declared.vec3.Vec3.{Vec3}
use Rattle.arena_geo.specs.Bounds.{Bounds, bounds}
use Rattle.arena_geo.specs.Laws.{IsBetween, IsPointOf}
use Rattle.areanode.specs.declared.cut.Axis.{Axis}
use Rattle.areanode.specs.declared.cut.Axis.TheVariants.{X, Y}
use Rattle.areanode.specs.Cuts.{low_on, high_on, cut_of, set_on}
use Rattle.areanode.specs.Sides.{IsPointAbove, IsPointBelow}
use Rattle.areanode.specs.Laws.{AreasHaveTheirParts}
use Rattle.areanode.proofs.Parts.{cut_is_between}

-- what lies above a cut that isn't below the low end, lies above that end
beyond_low : (lo hi dist at : ℤ) → lo ≤ℤ dist → IsBetween dist hi at → IsBetween lo hi at
beyond_low lo hi dist at low between = record { from = omega (arith, ints, between.from); to = between.to }

before_high : (lo hi dist at : ℤ) → dist ≤ℤ hi → IsBetween lo dist at → IsBetween lo hi at
before_high lo hi dist at high between = record { from = between.from; to = omega (arith, ints, between.to) }

points_above : (axis : Axis) (dist : ℤ) (area : Bounds) (p : Vec3) → low_on axis area ≤ℤ dist
    → IsPointOf (bounds (set_on axis dist area.lo) area.hi) p ↔ IsPointAbove area (record { axis = axis; dist = dist }) p
points_above X dist area p low = (
  λ part. record { within = record { x = beyond_low _ _ dist p.x low part.x; y = part.y; z = part.z }; beyond = part.x.from },
  λ whole. record { x = record { from = whole.beyond; to = whole.within.x.to }; y = whole.within.y; z = whole.within.z },
)
points_above Y dist area p low = (
  λ part. record { within = record { x = part.x; y = beyond_low _ _ dist p.y low part.y; z = part.z }; beyond = part.y.from },
  λ whole. record { x = whole.within.x; y = record { from = whole.beyond; to = whole.within.y.to }; z = whole.within.z },
)

points_below : (axis : Axis) (dist : ℤ) (area : Bounds) (p : Vec3) → dist ≤ℤ high_on axis area
    → IsPointOf (bounds area.lo (set_on axis dist area.hi)) p ↔ IsPointBelow area (record { axis = axis; dist = dist }) p
points_below X dist area p high = (
  λ part. record { within = record { x = before_high _ _ dist p.x high part.x; y = part.y; z = part.z }; before = part.x.to },
  λ whole. record { x = record { from = whole.within.x.from; to = whole.before }; y = whole.within.y; z = whole.within.z },
)
points_below Y dist area p high = (
  λ part. record { within = record { x = part.x; y = before_high _ _ dist p.y high part.y; z = part.z }; before = part.y.to },
  λ whole. record { x = whole.within.x; y = record { from = whole.within.y.from; to = whole.before }; z = whole.within.z },
)

pub areas_have_their_parts : AreasHaveTheirParts
areas_have_their_parts area ordered =
    let between = cut_is_between area ordered in
    record {
      above = λ p. points_above (cut_of area).axis (cut_of area).dist area p between.low;
      below = λ p. points_below (cut_of area).axis (cut_of area).dist area p between.high;
    }
