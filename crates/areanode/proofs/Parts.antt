-- The parts of an area are boxes.
use Rattle.std.proofs.Common.{◌≡◌, ℤ, pos, negsuc, ◌+ℤ◌, ◌≤ℤ◌, ◌≤◌, unsigned_abs, FitsSigned, to_z, of_z, refl, ◌∙◌, arith}
use Rattle.std.specs.Int.{int_div_euclid, w32}
use Rattle.std.proofs.lemmas.Int.{ints, to_z-of_z}
use Rattle.arena_geo.specs.declared.vec3.Vec3.{Vec3}
use Rattle.arena_geo.specs.Bounds.{Bounds, bounds, IsOrdered, IsBox}
use Rattle.areanode.specs.declared.cut.Axis.{Axis}
use Rattle.areanode.specs.declared.cut.Axis.TheVariants.{X, Y}
use Rattle.areanode.specs.declared.cut.Cut.{Cut}
use Rattle.areanode.specs.Cuts.{low_on, high_on, halfway, axis_of, cut_of, set_on, part_above, part_below}

-- no end lies above the number
pub record IsBetween (lo hi z : ℤ) : Type 0 where
  pub low : lo ≤ℤ z
  pub high : z ≤ℤ hi

-- the quotient by 2 that is rounded toward minus infinity
pub record IsHalf (z half : ℤ) : Type 0 where
  pub low : (half +ℤ half) ≤ℤ z
  pub high : z ≤ℤ (half +ℤ half +ℤ pos 1)

pub half_is : (z : ℤ) → IsHalf z (int_div_euclid z (pos 2))
half_is (pos n) = record { low = omega (arith, ints); high = omega (arith, ints) }
half_is (negsuc n) = record { low = omega (arith, ints); high = omega (arith, ints) }

between_from_half : (lo hi half : ℤ) → lo ≤ℤ hi → IsHalf (lo +ℤ hi) half → IsBetween lo hi half
between_from_half lo hi half ordered is = record { low = omega (arith, ints, is.high); high = omega (arith, ints, is.low) }

halfway_is_between : (lo hi : ℤ) → lo ≤ℤ hi → IsBetween lo hi (halfway lo hi)
halfway_is_between lo hi ordered = between_from_half lo hi _ ordered (half_is (lo +ℤ hi))

pub ordered_on : (axis : Axis) (b : Bounds) → IsOrdered b → low_on axis b ≤ℤ high_on axis b
ordered_on X b ordered = ordered.x
ordered_on Y b ordered = ordered.y

pub cut_is_between : (area : Bounds) → IsOrdered area
    → IsBetween (low_on (cut_of area).axis area) (high_on (cut_of area).axis area) (cut_of area).dist
cut_is_between area ordered = halfway_is_between _ _ (ordered_on (axis_of area) area ordered)

near_between : (lo hi z : ℤ) → IsBetween lo hi z → unsigned_abs lo ≤ 2097152 → unsigned_abs hi ≤ 2097152
    → unsigned_abs z ≤ 2097152
near_between lo hi z between low high = omega (arith, ints, between.low, between.high)

raised_is_box : (axis : Axis) (z : ℤ) (area : Bounds) → IsBox area → IsBetween (low_on axis area) (high_on axis area) z
    → IsBox (bounds (set_on axis z area.lo) area.hi)
raised_is_box X z area box between = record {
  ordered = record { x = between.high; y = box.ordered.y; z = box.ordered.z };
  in_range = record { lo = record { x = near_between _ _ z between box.in_range.lo.x box.in_range.hi.x; y = box.in_range.lo.y; z = box.in_range.lo.z }; hi = box.in_range.hi };
}
raised_is_box Y z area box between = record {
  ordered = record { x = box.ordered.x; y = between.high; z = box.ordered.z };
  in_range = record { lo = record { x = box.in_range.lo.x; y = near_between _ _ z between box.in_range.lo.y box.in_range.hi.y; z = box.in_range.lo.z }; hi = box.in_range.hi };
}

lowered_is_box : (axis : Axis) (z : ℤ) (area : Bounds) → IsBox area → IsBetween (low_on axis area) (high_on axis area) z
    → IsBox (bounds area.lo (set_on axis z area.hi))
lowered_is_box X z area box between = record {
  ordered = record { x = between.low; y = box.ordered.y; z = box.ordered.z };
  in_range = record { lo = box.in_range.lo; hi = record { x = near_between _ _ z between box.in_range.lo.x box.in_range.hi.x; y = box.in_range.hi.y; z = box.in_range.hi.z } };
}
lowered_is_box Y z area box between = record {
  ordered = record { x = box.ordered.x; y = between.low; z = box.ordered.z };
  in_range = record { lo = box.in_range.lo; hi = record { x = box.in_range.hi.x; y = near_between _ _ z between box.in_range.lo.y box.in_range.hi.y; z = box.in_range.hi.z } };
}

pub part_above_is_box : (area : Bounds) → IsBox area → IsBox (part_above area)
part_above_is_box area box = raised_is_box _ _ area box (cut_is_between area box.ordered)

pub part_below_is_box : (area : Bounds) → IsBox area → IsBox (part_below area)
part_below_is_box area box = lowered_is_box _ _ area box (cut_is_between area box.ordered)

-- what the code set at the cut is what is set there
pub set_at : (r corner lo : Vec3) (cut at : Cut) → FitsSigned w32 cut.dist
    → r ≡ set_on cut.axis (to_z w32 (of_z w32 cut.dist)) corner → cut ≡ at → corner ≡ lo → r ≡ set_on at.axis at.dist lo
set_at r corner lo cut at fits h e f = h ∙ rw (to_z-of_z w32 cut.dist fits, e, f) refl
