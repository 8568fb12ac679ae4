-- What an index by strips rests on: strips rise with the places, and a corner is read back as it was.
use Rattle.std.proofs.Common.{◌≡◌, ℕ, ◌/◌, ◌^◌, ◌≤◌, min, ℤ, ◌≤ℤ◌, ◌-ℤ◌, unsigned_abs, ap, ◌∙◌, arith}
use Rattle.std.proofs.Math.Nat.{div-mul-le_self}
use Rattle.std.specs.Int.{int_max, w32}
use mir.Val.{to_z, of_z}
use Rattle.std.proofs.lemmas.Nat.{pow_pos, le-div}
use Rattle.std.proofs.lemmas.Int.{ints, to_z-of_z, fits_signed_from_abs}
use Rattle.arena_geo.specs.declared.vec3.Vec3.{Vec3}
use Rattle.arena_geo.specs.Vectors.{IsNear}

pub shr-mono : (a b k : ℕ) → a ≤ b → a / 2 ^ k ≤ b / 2 ^ k
shr-mono a b k less = le-div (a / 2 ^ k) b (2 ^ k) (pow_pos k) (omega (arith, less, div-mul-le_self a (2 ^ k)))

pub past-mono : (from a b : ℤ) → a ≤ℤ b → unsigned_abs (int_max a from -ℤ from) ≤ unsigned_abs (int_max b from -ℤ from)
past-mono from a b less = grind (arith, ints)

pub min-mono : (a b c : ℕ) → a ≤ b → min a c ≤ min b c
min-mono a b c less = omega (arith, less)

pub read_back : (v : ℤ) → unsigned_abs v ≤ 2097152 → to_z w32 (of_z w32 v) ≡ v
read_back v near = to_z-of_z w32 v (fits_signed_from_abs w32 v (omega (arith, near)))

pub read_x : (result corner : Vec3) → result ≡ corner → IsNear 2097152 corner → to_z w32 (of_z w32 result.x) ≡ corner.x
read_x result corner is near = ap (λ (v : Vec3). to_z w32 (of_z w32 v.x)) is ∙ read_back corner.x near.x

pub read_y : (result corner : Vec3) → result ≡ corner → IsNear 2097152 corner → to_z w32 (of_z w32 result.y) ≡ corner.y
read_y result corner is near = ap (λ (v : Vec3). to_z w32 (of_z w32 v.y)) is ∙ read_back corner.y near.y
