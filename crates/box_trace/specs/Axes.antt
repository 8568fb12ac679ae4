-- The three axes, their numbers, and the parts of a vector.
use Rattle.std.specs.Prelude.{ℕ, ◌==◌, Option, Some, None, if◌then◌else◌, ℤ}
use Rattle.arena_geo.specs.declared.vec3.Vec3.{Vec3}
use Rattle.box_trace.specs.declared.axis.Axis.{Axis}
use Rattle.box_trace.specs.declared.axis.Axis.TheVariants.{X, Y, Z}

-- the number of an axis: 0 for x, 1 for y and 2 for z
abbrev pub number_of : Axis → ℕ
number_of X = 0
number_of Y = 1
number_of Z = 2

-- the axis with this number, none where there is none
abbrev pub axis_with : ℕ → Option Axis
axis_with number =
    if number == 0 then Some X
    else (if number == 1 then Some Y else (if number == 2 then Some Z else None))

-- the part of a vector on an axis
abbrev pub part : Axis → Vec3 → ℤ
part X v = v.x
part Y v = v.y
part Z v = v.z
