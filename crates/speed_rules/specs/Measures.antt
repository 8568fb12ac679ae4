-- Lengths and shares in whole numbers.
use Rattle.std.specs.Prelude.{ℕ, ◌+◌, ◌*◌, ℤ, pos, ◌+ℤ◌, ◌-ℤ◌, ◌*ℤ◌, unsigned_abs, int_div}
use Rattle.arena_geo.specs.declared.vec3.Vec3.{Vec3}
use Rattle.arena_geo.specs.Roots.{root_of}
use Rattle.speed_rules.specs.declared.constants.TheConstants.{MAX_VELOCITY}

-- the length of (x, y), rounded down
abbrev pub length_of : ℤ → ℤ → ℕ
length_of x y = root_of (unsigned_abs x * unsigned_abs x + unsigned_abs y * unsigned_abs y)

-- the speed over the ground, rounded down
abbrev pub speed_of : Vec3 → ℕ
speed_of v = length_of v.x v.y

-- how far from 0 a part of a velocity is at most after the clamp
abbrev pub greatest_velocity : ℕ
greatest_velocity = unsigned_abs MAX_VELOCITY

-- part times by over whole, cut toward 0
abbrev pub scaled_part : ℤ → ℤ → ℕ → ℤ
scaled_part part by whole = int_div (part *ℤ by) (pos whole)

-- the product of a velocity over the ground with (x, y), axis by axis
abbrev pub dot_of : Vec3 → ℤ → ℤ → ℤ
dot_of v x y = v.x *ℤ x +ℤ v.y *ℤ y

-- the product of a velocity over the ground across (x, y): its length times the part at a right angle to it
abbrev pub cross_of : Vec3 → ℤ → ℤ → ℤ
cross_of v x y = v.x *ℤ y -ℤ v.y *ℤ x

-- the part of a velocity along (x, y), of which len is the length
abbrev pub part_along : Vec3 → ℤ → ℤ → ℕ → ℤ
part_along v x y len = int_div (dot_of v x y) (pos len)
