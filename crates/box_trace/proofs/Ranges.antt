-- Where a body is in range on its way.
use Rattle.std.proofs.Common.{◌≡◌, ℕ, zero, suc, ◌≤◌, ℤ, pos, negsuc, ◌+ℤ◌, neg_ℤ, unsigned_abs, ap, ◌∙◌, arith}
use Rattle.std.proofs.Math.Nat.{zero-div, mul-div_left}
use Rattle.std.proofs.lemmas.Int.{ints}
use Rattle.arena_geo.specs.declared.vec3.Vec3.{Vec3}
use Rattle.arena_geo.specs.Vectors.{IsNear}
use Rattle.arena_geo.specs.Bounds.{Bounds, IsInRange}
use Rattle.arena_geo.specs.Boxes.{box_moved_by}
use Rattle.box_trace.specs.Steps.{step_count, part_at, shift_at, body_at}
use Rattle.box_trace.specs.Laws.{StepsStayInRange}
use Rattle.box_trace.proofs.Parts.{share_le, part_at-neg}

-- what is in range at both ends is in range between them
part_in_range : (l d : ℤ) (n k far : ℕ) → k ≤ n → unsigned_abs l ≤ far → unsigned_abs (l +ℤ d) ≤ far
    → unsigned_abs (l +ℤ part_at n k d) ≤ far
part_in_range l (pos a) n k far within first last =
    let share = share_le a k n within in omega (arith, ints)
part_in_range l (negsuc a) n k far within first last =
    let share = share_le (suc a) k n within in rw part_at-neg (omega (arith, ints))

near_on_the_way : (v d : Vec3) (k far : ℕ) → k ≤ step_count d → IsNear far v
    → IsNear far (record { x = v.x +ℤ d.x; y = v.y +ℤ d.y; z = v.z +ℤ d.z })
    → IsNear far (record { x = v.x +ℤ (shift_at d k).x; y = v.y +ℤ (shift_at d k).y; z = v.z +ℤ (shift_at d k).z })
near_on_the_way v d k far within first last = record {
  x = part_in_range v.x d.x (step_count d) k far within first.x last.x;
  y = part_in_range v.y d.y (step_count d) k far within first.y last.y;
  z = part_in_range v.z d.z (step_count d) k far within first.z last.z;
}

pub IsInRange-body_at : (body : Bounds) (d : Vec3) (k : ℕ) → IsInRange body → IsInRange (box_moved_by body d)
    → k ≤ step_count d → IsInRange (body_at body d k)
IsInRange-body_at body d k first last within = record {
  lo = near_on_the_way body.lo d k 2097152 within first.lo last.lo;
  hi = near_on_the_way body.hi d k 2097152 within first.hi last.hi;
}

-- at the last step a part has come all its way
pub part_at-last : (n : ℕ) (d : ℤ) → unsigned_abs d ≤ n → part_at n n d ≡ d
part_at-last zero (pos zero) small = ap pos (zero-div zero)
part_at-last zero (pos (suc a)) small = absurd (omega arith)
part_at-last zero (negsuc a) small = absurd (omega arith)
part_at-last (suc n) (pos a) small = ap pos (mul-div_left a {n = suc n} (omega arith))
part_at-last (suc n) (negsuc a) small = part_at-neg (suc n) (suc n) a ∙ ap (λ (m : ℕ). neg_ℤ (pos m)) (mul-div_left (suc a) {n = suc n} (omega arith))

-- at the last step it has come the whole way
pub shift_at-last : (d : Vec3) → shift_at d (step_count d) ≡ d
shift_at-last d =
    let x = part_at-last (step_count d) d.x (omega arith) in
    let y = part_at-last (step_count d) d.y (omega arith) in
    let z = part_at-last (step_count d) d.z (omega arith) in
    λ i. record { x = x i; y = y i; z = z i }

-- at the last step the body is at the end of its way
pub body_at-last : (body : Bounds) (d : Vec3) → body_at body d (step_count d) ≡ box_moved_by body d
body_at-last body d = ap (box_moved_by body) (shift_at-last d)

pub steps_stay_in_range : StepsStayInRange
steps_stay_in_range body d start = (
  λ end k within. IsInRange-body_at body d k start end within,
  λ each. rw (← body_at-last body d) (each (step_count d) (omega arith)),
)
