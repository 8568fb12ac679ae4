-- How far a velocity goes at most.
use Rattle.std.proofs.Common.{◌≡◌, ℕ, ◌*◌, ◌/◌, ◌≤◌, ◌≤ℤ◌, ℤ, pos, ◌+ℤ◌, ◌-ℤ◌, ◌*ℤ◌, int_div, unsigned_abs, FitsSigned, arith}
use Rattle.std.specs.Int.{w32, w64, cast_signed, cast_unsigned}
use Rattle.std.proofs.lemmas.Nat.{mul-le}
use Rattle.std.proofs.lemmas.Int.{ints, to_z-of_z, quot_is, fits_signed_from_abs, unsigned_abs-mul}
use Rattle.arena_geo.specs.declared.vec3.Vec3.{Vec3}
use Rattle.arena_geo.specs.Vectors.{IsNear}
use Rattle.box_trace.proofs.Parts.{unsigned_abs-part_at}
use Rattle.slide_move.specs.Displacements.{distance, displacement}
use Rattle.slide_move.specs.Laws.{ReachSuffices}

pub distance_near : (speed : ℤ) (ms : ℕ) → unsigned_abs speed ≤ 600000 → ms ≤ 50
    → unsigned_abs (distance speed ms) ≤ 30000
distance_near speed ms near most =
    let size = unsigned_abs-part_at 1000 ms speed in
    let product : unsigned_abs speed * ms ≤ 600000 * 50 = mul-le (unsigned_abs speed) ms 600000 50 near most in
    let quotient : unsigned_abs speed * ms / 1000 ≤ 30000 = omega arith in
    omega arith

-- what the code's 64-bit product and quotient give
pub distance_wide : (speed a b : ℤ) (ms : ℕ) → unsigned_abs speed ≤ 600000 → ms ≤ 50 → a ≡ speed → b ≡ pos ms
    → cast_signed w64 (cast_unsigned w64 (int_div (cast_signed w64 (cast_unsigned w64 (cast_signed w64 (cast_unsigned w64 a) *ℤ cast_signed w64 (cast_unsigned w64 b)))) (pos 1000))) ≡ distance speed ms
distance_wide speed a b ms near most a_is b_is =
    let fits_speed : FitsSigned w64 speed = fits_signed_from_abs w64 speed (omega arith) in
    let fits_ms : FitsSigned w64 (pos ms) = fits_signed_from_abs w64 (pos ms) (omega arith) in
    let fits_second : FitsSigned w64 (pos 1000) = fits_signed_from_abs w64 (pos 1000) (omega arith) in
    let small : unsigned_abs speed * ms ≤ 600000 * 50 = mul-le (unsigned_abs speed) ms 600000 50 near most in
    let fits_product : FitsSigned w64 (speed *ℤ pos ms) = fits_signed_from_abs w64 (speed *ℤ pos ms) (omega (arith, unsigned_abs-mul speed (pos ms))) in
    let fits_result : FitsSigned w64 (distance speed ms) = fits_signed_from_abs w64 (distance speed ms) (omega (arith, distance_near speed ms near most)) in
    rw (a_is, b_is, to_z-of_z w64 speed fits_speed, to_z-of_z w64 (pos ms) fits_ms) (quot_is w64 (speed *ℤ pos ms) (pos 1000) fits_product fits_second fits_result)

-- a distance is a 32-bit number
pub distance_fits : (speed : ℤ) (ms : ℕ) → unsigned_abs speed ≤ 600000 → ms ≤ 50 → FitsSigned w32 (distance speed ms)
distance_fits speed ms near most = fits_signed_from_abs w32 (distance speed ms) (omega (arith, distance_near speed ms near most))

pub IsNear-displacement : (vel : Vec3) (ms : ℕ) → IsNear 600000 vel → ms ≤ 50 → IsNear 30000 (displacement vel ms)
IsNear-displacement vel ms near most = record {
  x = distance_near vel.x ms near.x most;
  y = distance_near vel.y ms near.y most;
  z = distance_near vel.z ms near.z most;
}

low_in_range : (lo hi d : ℤ) → lo ≤ℤ hi → unsigned_abs d ≤ 30000 → unsigned_abs (lo -ℤ pos 30000) ≤ 2097152
    → unsigned_abs (hi +ℤ pos 30000) ≤ 2097152 → unsigned_abs (lo +ℤ d) ≤ 2097152
low_in_range lo hi d ordered near low high = omega (arith, ints)

high_in_range : (lo hi d : ℤ) → lo ≤ℤ hi → unsigned_abs d ≤ 30000 → unsigned_abs (lo -ℤ pos 30000) ≤ 2097152
    → unsigned_abs (hi +ℤ pos 30000) ≤ 2097152 → unsigned_abs (hi +ℤ d) ≤ 2097152
high_in_range lo hi d ordered near low high = omega (arith, ints)

pub reach_suffices : ReachSuffices
reach_suffices body vel ms ordered near most range =
    let d = IsNear-displacement vel ms near most in
    record {
      lo = record {
        x = low_in_range body.lo.x body.hi.x _ ordered.x d.x range.lo.x range.hi.x;
        y = low_in_range body.lo.y body.hi.y _ ordered.y d.y range.lo.y range.hi.y;
        z = low_in_range body.lo.z body.hi.z _ ordered.z d.z range.lo.z range.hi.z;
      };
      hi = record {
        x = high_in_range body.lo.x body.hi.x _ ordered.x d.x range.lo.x range.hi.x;
        y = high_in_range body.lo.y body.hi.y _ ordered.y d.y range.lo.y range.hi.y;
        z = high_in_range body.lo.z body.hi.z _ ordered.z d.z range.lo.z range.hi.z;
      };
    }
