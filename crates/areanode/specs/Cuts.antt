-- How the area of an inner node is cut in two, and on which sides of the cut a box is.
use Rattle.std.specs.Prelude.{Bool, ℤ, pos, ◌+ℤ◌, ◌-ℤ◌, int_lt, int_le, if◌then◌else◌}
use Rattle.std.specs.Int.{int_div_euclid}
use Rattle.arena_geo.specs.declared.vec3.Vec3.{Vec3}
use Rattle.arena_geo.specs.Bounds.{Bounds, bounds}
use Rattle.areanode.specs.declared.cut.Axis.{Axis}
use Rattle.areanode.specs.declared.cut.Axis.TheVariants.{X, Y}
use Rattle.areanode.specs.declared.cut.Cut.{Cut}

-- the low end of a box on an axis
abbrev pub low_on : Axis → Bounds → ℤ
low_on X b = b.lo.x
low_on Y b = b.lo.y

-- the high end of a box on an axis
abbrev pub high_on : Axis → Bounds → ℤ
high_on X b = b.hi.x
high_on Y b = b.hi.y

-- the length of a box on an axis
abbrev pub length_on : Axis → Bounds → ℤ
length_on axis b = high_on axis b -ℤ low_on axis b

-- the sum of two ends divided by 2, toward minus infinity
abbrev pub halfway : ℤ → ℤ → ℤ
halfway lo hi = int_div_euclid (lo +ℤ hi) (pos 2)

-- x where the area is longer on x than on y, else y
abbrev pub axis_of : Bounds → Axis
axis_of area = if int_lt (length_on Y area) (length_on X area) then X else Y

-- halfway on the axis
abbrev pub cut_of : Bounds → Cut
cut_of area = record { axis = axis_of area; dist = halfway (low_on (axis_of area) area) (high_on (axis_of area) area) }

-- the corner, with another coordinate on an axis
abbrev pub set_on : Axis → ℤ → Vec3 → Vec3
set_on X value corner = record corner { x = value }
set_on Y value corner = record corner { y = value }

-- the part of an area above its cut
abbrev pub part_above : Bounds → Bounds
part_above area = bounds (set_on (cut_of area).axis (cut_of area).dist area.lo) area.hi

-- the part of an area below its cut
abbrev pub part_below : Bounds → Bounds
part_below area = bounds area.lo (set_on (cut_of area).axis (cut_of area).dist area.hi)

-- the box lies above the cut, and doesn't touch it
abbrev pub is_above : Bounds → Cut → Bool
is_above b cut = int_lt cut.dist (low_on cut.axis b)

-- the box lies below the cut, and doesn't touch it
abbrev pub is_below : Bounds → Cut → Bool
is_below b cut = int_lt (high_on cut.axis b) cut.dist

-- the box has a point above the cut or on it
abbrev pub reaches_above : Bounds → Cut → Bool
reaches_above b cut = int_le cut.dist (high_on cut.axis b)

-- the box has a point below the cut or on it
abbrev pub reaches_below : Bounds → Cut → Bool
reaches_below b cut = int_le (low_on cut.axis b) cut.dist
