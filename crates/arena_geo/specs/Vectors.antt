-- Vectors: what holds of their parts, and their operations, axis by axis.
use Rattle.std.specs.Prelude.{ℕ, nat_le, Bool, ◌&&◌, ℤ, ◌≤◌, ◌+ℤ◌, ◌-ℤ◌, ◌≤ℤ◌, pos, unsigned_abs, FitsSigned}
use Rattle.std.specs.Int.{w32, int_min, int_max}
use Rattle.std.specs.Ordering.{int_eq}
use Rattle.arena_geo.specs.declared.vec3.Vec3.{Vec3}

-- the vector with these parts
abbrev pub vector : ℤ → ℤ → ℤ → Vec3
vector x y z = record { x = x; y = y; z = z }

-- 0 on each axis
abbrev pub zero_vector : Vec3
zero_vector = vector (pos 0) (pos 0) (pos 0)

-- each part of v is at most far from 0
pub record IsNear (far : ℕ) (v : Vec3) : Type 0 where
  pub x : unsigned_abs v.x ≤ far
  pub y : unsigned_abs v.y ≤ far
  pub z : unsigned_abs v.z ≤ far

-- each part is at most far from 0, as a test
abbrev pub is_near : ℕ → Vec3 → Bool
is_near far v = nat_le (unsigned_abs v.x) far && nat_le (unsigned_abs v.y) far && nat_le (unsigned_abs v.z) far

-- the parts of two vectors are equal, as a test
abbrev pub is_same_vector : Vec3 → Vec3 → Bool
is_same_vector v w = int_eq v.x w.x && int_eq v.y w.y && int_eq v.z w.z

-- each part of v is an i32
pub record Fits (v : Vec3) : Type 0 where
  pub x : FitsSigned w32 v.x
  pub y : FitsSigned w32 v.y
  pub z : FitsSigned w32 v.z

-- no part of v is below 0
pub record IsNotNegative (v : Vec3) : Type 0 where
  pub x : pos 0 ≤ℤ v.x
  pub y : pos 0 ≤ℤ v.y
  pub z : pos 0 ≤ℤ v.z

-- the sum, axis by axis
abbrev pub plus : Vec3 → Vec3 → Vec3
plus v w = record { x = v.x +ℤ w.x; y = v.y +ℤ w.y; z = v.z +ℤ w.z }

-- the difference, axis by axis
abbrev pub minus : Vec3 → Vec3 → Vec3
minus v w = record { x = v.x -ℤ w.x; y = v.y -ℤ w.y; z = v.z -ℤ w.z }

-- the lesser part on each axis
abbrev pub least : Vec3 → Vec3 → Vec3
least v w = record { x = int_min v.x w.x; y = int_min v.y w.y; z = int_min v.z w.z }

-- the greater part on each axis
abbrev pub greatest : Vec3 → Vec3 → Vec3
greatest v w = record { x = int_max v.x w.x; y = int_max v.y w.y; z = int_max v.z w.z }
