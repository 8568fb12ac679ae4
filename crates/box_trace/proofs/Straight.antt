-- A body goes straight along its displacement.
use Rattle.std.proofs.Common.{◌≡◌, ℕ, zero, suc, ◌*◌, ◌/◌, ◌<◌, ℤ, pos, negsuc, ◌≤ℤ◌, refl, arith}
use Rattle.std.specs.Prelude.{unsigned_abs}
use Rattle.std.proofs.Math.Nat.{zero-mul, zero-div, div-mul-le_self, lt-div-mul-add}
use Rattle.std.proofs.lemmas.Int.{ints}
use Rattle.arena_geo.specs.declared.vec3.Vec3.{Vec3}
use Rattle.box_trace.specs.declared.axis.Axis.{Axis}
use Rattle.box_trace.specs.declared.axis.Axis.TheVariants.{X, Y, Z}
use Rattle.box_trace.specs.Axes.{part}
use Rattle.box_trace.specs.Steps.{step_count, part_at, shift_at}
use Rattle.box_trace.specs.Laws.{IsGreatestPart, IsShareOf, WaysAreStraight}
use Rattle.box_trace.proofs.Parts.{unsigned_abs-part_at, part_at-neg}

-- a quotient is the greatest number of wholes in the dividend
is_quotient : (size k n come : ℕ) → 0 < n → come ≡ size * k / n → (whole : ℤ) (shift : ℤ)
    → unsigned_abs whole ≡ size → unsigned_abs shift ≡ come
    → (pos 0 ≤ℤ whole → pos 0 ≤ℤ shift) → (whole ≤ℤ pos 0 → shift ≤ℤ pos 0) → IsShareOf k n whole shift
is_quotient size k n come some come_is whole shift whole_is shift_is above below = record {
  least = rw (shift_is, whole_is, come_is) (div-mul-le_self (size * k) n);
  most = rw (shift_is, whole_is, come_is) (omega (arith, lt-div-mul-add {a = size * k} some));
  stays_positive = above;
  stays_negative = below;
}

part_at-above : (k n : ℕ) (whole : ℤ) → pos 0 ≤ℤ whole → pos 0 ≤ℤ part_at n k whole
part_at-above k n (pos a) above = omega (arith, ints)
part_at-above k n (negsuc a) above = absurd (omega (arith, ints))

part_at-below : (k n : ℕ) (whole : ℤ) → whole ≤ℤ pos 0 → part_at n k whole ≤ℤ pos 0
part_at-below k n (pos zero) below =
    let none : 0 * k / n ≡ 0 = rw zero-mul (zero-div n) in
    omega (arith, ints)
part_at-below k n (pos (suc a)) below = absurd (omega (arith, ints))
part_at-below k n (negsuc a) below = rw part_at-neg (omega (arith, ints))

pub share_at : (k n : ℕ) (whole : ℤ) → 0 < n → IsShareOf k n whole (part_at n k whole)
share_at k n whole some =
    is_quotient (unsigned_abs whole) k n _ some refl whole (part_at n k whole) refl (unsigned_abs-part_at n k whole) (part_at-above k n whole) (part_at-below k n whole)

steps_are : (d : Vec3) (n : ℕ) → IsGreatestPart d n → (axis : Axis) → unsigned_abs (part axis d) ≡ n → step_count d ≡ n
steps_are d n greatest X reached = omega (arith, greatest.most Y, greatest.most Z)
steps_are d n greatest Y reached = omega (arith, greatest.most X, greatest.most Z)
steps_are d n greatest Z reached = omega (arith, greatest.most X, greatest.most Y)

share_on : (d : Vec3) (k n : ℕ) → step_count d ≡ n → 0 < n → (axis : Axis) → IsShareOf k n (part axis d) (part axis (shift_at d k))
share_on d k n steps some X = rw steps (share_at k n d.x some)
share_on d k n steps some Y = rw steps (share_at k n d.y some)
share_on d k n steps some Z = rw steps (share_at k n d.z some)

pub ways_are_straight : WaysAreStraight
ways_are_straight body d k n greatest some within =
    let steps = steps_are d n greatest greatest.axis greatest.reached in
    record { steps = steps; shifted = refl; share = share_on d k n steps some }
