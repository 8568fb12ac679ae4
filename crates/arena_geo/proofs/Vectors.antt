-- Equal vectors, sums with 0, and the tests of vectors.
use Rattle.std.proofs.Common.{◌≡◌, ℕ, nat_le, ◌&&◌, true, ℤ, pos, ◌+ℤ◌, unsigned_abs, ap, ◌∙◌, arith}
use Rattle.std.specs.Ordering.{int_eq}
use Rattle.std.proofs.lemmas.Bool.{and_parts, leb-true}
use Rattle.std.proofs.lemmas.Bool.Decides.{Decides-int_eq}
use Rattle.std.proofs.lemmas.Int.{ints}
use Rattle.arena_geo.specs.declared.vec3.Vec3.{Vec3}
use Rattle.arena_geo.specs.Vectors.{vector, zero_vector, plus, IsNear, is_near, is_same_vector}

-- vectors with equal parts are equal
pub same_parts : {v w : Vec3} → v.x ≡ w.x → v.y ≡ w.y → v.z ≡ w.z → v ≡ w
same_parts {v} {w} x y z = ap (λ n. vector n v.y v.z) x ∙ ap (λ n. vector w.x n v.z) y ∙ ap (λ n. vector w.x w.y n) z

pub plus_zero : (a : ℤ) → a +ℤ pos 0 ≡ a
plus_zero a = omega (arith, ints)

pub plus-zero_vector : (v : Vec3) → plus v zero_vector ≡ v
plus-zero_vector v = same_parts (plus_zero v.x) (plus_zero v.y) (plus_zero v.z)

-- a vector that passes the test is near
pub near_by_test : (far : ℕ) (v : Vec3) → is_near far v ≡ true → IsNear far v
near_by_test far v h =
    let xy = and_parts (nat_le (unsigned_abs v.x) far && nat_le (unsigned_abs v.y) far) (nat_le (unsigned_abs v.z) far) h in
    let x_y = and_parts (nat_le (unsigned_abs v.x) far) (nat_le (unsigned_abs v.y) far) xy.0 in
    record { x = leb-true _ far x_y.0; y = leb-true _ far x_y.1; z = leb-true _ far xy.1 }

-- vectors that pass the test are equal
pub same_by_test : (v w : Vec3) → is_same_vector v w ≡ true → v ≡ w
same_by_test v w h =
    let xy = and_parts (int_eq v.x w.x && int_eq v.y w.y) (int_eq v.z w.z) h in
    let x_y = and_parts (int_eq v.x w.x) (int_eq v.y w.y) xy.0 in
    same_parts ((Decides-int_eq v.x w.x).0 x_y.0) ((Decides-int_eq v.y w.y).0 x_y.1) ((Decides-int_eq v.z w.z).0 xy.1)
