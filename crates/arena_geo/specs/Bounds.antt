-- A box as contracts see it: its two corners.
use Rattle.std.specs.Prelude.{◌≤ℤ◌}
use Rattle.arena_geo.specs.declared.vec3.Vec3.{Vec3}
use Rattle.arena_geo.specs.Vectors.{IsNear}

-- the low and the high corner
pub record Bounds : Type 0 where
  pub lo : Vec3
  pub hi : Vec3

-- the box with these corners
abbrev pub bounds : Vec3 → Vec3 → Bounds
bounds lo hi = record { lo = lo; hi = hi }

-- each coordinate is at most 2,097,152 from 0
pub record IsInRange (b : Bounds) : Type 0 where
  pub lo : IsNear 2097152 b.lo
  pub hi : IsNear 2097152 b.hi

-- on no axis does the low corner lie above the high one
pub record IsOrdered (b : Bounds) : Type 0 where
  pub x : b.lo.x ≤ℤ b.hi.x
  pub y : b.lo.y ≤ℤ b.hi.y
  pub z : b.lo.z ≤ℤ b.hi.z

-- a box: ordered corners in range
pub record IsBox (b : Bounds) : Type 0 where
  pub ordered : IsOrdered b
  pub in_range : IsInRange b
