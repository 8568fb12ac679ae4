-- How far a velocity goes in a time, and a vector without one of its parts.
use Rattle.std.specs.Prelude.{ℕ, ℤ, pos, ◌*ℤ◌, int_div, Bool, ◌&&◌, Option, Some, None, if◌then◌else◌}
use Rattle.std.specs.Ordering.{int_eq}
use Rattle.arena_geo.specs.declared.vec3.Vec3.{Vec3}
use Rattle.arena_geo.specs.Vectors.{vector}
use Rattle.box_trace.specs.declared.axis.Axis.{Axis}
use Rattle.box_trace.specs.declared.axis.Axis.TheVariants.{X, Y, Z}

-- how far a speed goes in so many milliseconds, cut toward 0
abbrev pub distance : ℤ → ℕ → ℤ
distance speed ms = int_div (speed *ℤ pos ms) (pos 1000)

-- how far a velocity goes in so many milliseconds, cut toward 0 on each axis
abbrev pub displacement : Vec3 → ℕ → Vec3
displacement vel ms =
    vector (distance vel.x ms) (distance vel.y ms) (distance vel.z ms)

-- the farthest that a velocity of at most 600,000 goes in at most 50 milliseconds, on each axis
abbrev pub reach : Vec3
reach = vector (pos 30000) (pos 30000) (pos 30000)

-- the vector with 0 on this axis
abbrev pub without : Axis → Vec3 → Vec3
without X v = record v { x = pos 0 }
without Y v = record v { y = pos 0 }
without Z v = record v { z = pos 0 }

-- whether the vector is 0 on all axes
abbrev pub is_zero_vector : Vec3 → Bool
is_zero_vector v = int_eq v.x (pos 0) && int_eq v.y (pos 0) && int_eq v.z (pos 0)

-- the way, none where it is 0 on all axes
abbrev pub some_way : Vec3 → Option Vec3
some_way way = if is_zero_vector way then None else Some way
