-- The box of a shot and its way stay in range.
use Rattle.std.proofs.Common.{◌≡◌, ℕ, zero, suc, negsuc, ◌≤ℤ◌, ◌+◌, ◌<◌, ◌≤◌, nat_lt, Bool, true, cond, ℤ, pos, ◌+ℤ◌, ◌-ℤ◌, ◌*ℤ◌, unsigned_abs, Some, None, refl, sym, ap, ◌∙◌, arith}
use Rattle.std.specs.Prelude.{FitsSigned}
use Rattle.std.specs.Int.{w32}
use Rattle.std.proofs.lemmas.Int.{ints, to_z-of_z}
use Rattle.std.proofs.lemmas.Bool.Decides.{nat_tests}
use mir.Val.{to_z, of_z}
use Rattle.arena_geo.specs.declared.vec3.Vec3.{Vec3}
use Rattle.arena_geo.specs.Vectors.{IsNear, vector, plus, minus}
use Rattle.arena_geo.specs.Bounds.{Bounds, bounds, IsBox, IsInRange}
use Rattle.arena_geo.specs.Boxes.{box_moved_by, contains_on}
use Rattle.arena_geo.proofs.Containment.{all_three}
use Rattle.box_trace.specs.Steps.{step_count, part_at}
use Rattle.box_trace.proofs.Parts.{unsigned_abs-part_at_le, part_at-neg}
use Rattle.std.specs.Int.{int_min, int_max}
use Rattle.speed_rules.proofs.Shares.{scaled_le_by, reaches_x, reaches_y}
use Rattle.arena_geo.proofs.Vectors.{same_parts}
use Rattle.speed_rules.specs.Wishes.{wish_length}
use Rattle.shot_rules.specs.Targets.{shot_box, range_on, has_aim, way_along, way_if_any}
use Rattle.shot_rules.specs.Laws.{ShotsStayNear, ShotsStayInRange}

abbrev half : Vec3
half = vector (pos 256) (pos 256) (pos 256)

-- the corners of a shot's box make one
pub shot_is_box : (origin lo hi : Vec3) → IsNear 1048576 origin → lo ≡ minus origin half → hi ≡ plus origin half → IsBox (bounds lo hi)
shot_is_box origin lo hi near lo_is hi_is = rw (lo_is, hi_is) (record {
  ordered = record { x = omega (arith, ints); y = omega (arith, ints); z = omega (arith, ints) };
  in_range = record {
    lo = record { x = omega (arith, ints, near.x); y = omega (arith, ints, near.y); z = omega (arith, ints, near.z) };
    hi = record { x = omega (arith, ints, near.x); y = omega (arith, ints, near.y); z = omega (arith, ints, near.z) };
  };
})

-- at the end of its way it is in range
pub shot_ends_in_range : (origin way : Vec3) (b : Bounds) → IsNear 1048576 origin → IsNear 65536 way → b ≡ shot_box origin → IsInRange (box_moved_by b way)
shot_ends_in_range origin way b near far b_is = rw b_is (record {
  lo = record { x = omega (arith, ints, near.x, far.x); y = omega (arith, ints, near.y, far.y); z = omega (arith, ints, near.z, far.z) };
  hi = record { x = omega (arith, ints, near.x, far.x); y = omega (arith, ints, near.y, far.y); z = omega (arith, ints, near.z, far.z) };
})

-- there is a way where the wish has a length
pub way_is_some : (wish_x wish_y : ℤ) (x y : ℤ) → (wish_length wish_x wish_y ≡ 0 → ⊥)
    → x ≡ range_on wish_x (wish_length wish_x wish_y) → y ≡ range_on wish_y (wish_length wish_x wish_y)
    → unsigned_abs x ≤ 65536 → unsigned_abs y ≤ 65536
    → Some (vector (to_z w32 (of_z w32 x)) (to_z w32 (of_z w32 y)) (pos 0)) ≡ way_if_any wish_x wish_y
way_is_some wish_x wish_y x y some x_is y_is x_near y_near =
    let x_fits : FitsSigned w32 x = omega (arith, ints) in
    let y_fits : FitsSigned w32 y = omega (arith, ints) in
    let test : nat_lt 0 (wish_length wish_x wish_y) ≡ true = above (wish_length wish_x wish_y) some in
    ap (λ (v : Vec3). Some v) (same_parts (to_z-of_z w32 x x_fits ∙ x_is) (to_z-of_z w32 y y_fits ∙ y_is) refl)
    ∙ sym (ap (λ (t : Bool). cond t (Some (way_along wish_x wish_y)) None) test)
  where
    above : (n : ℕ) → (n ≡ 0 → ⊥) → nat_lt 0 n ≡ true
    above n some = grind (arith, nat_tests)

-- ---- a shot stays near

half_on : (o shift : ℤ) (far : ℕ) → unsigned_abs shift ≤ far
    → contains_on (o -ℤ pos (far + 256)) (o +ℤ pos (far + 256)) ((o -ℤ pos 256) +ℤ shift) ((o +ℤ pos 256) +ℤ shift) ≡ true
half_on o shift far near = grind (arith, ints)

range_is_near : (wish_x wish_y wish : ℤ) → has_aim wish_x wish_y ≡ true → unsigned_abs (wish *ℤ pos 256) ≤ wish_length wish_x wish_y
    → unsigned_abs (range_on wish (wish_length wish_x wish_y)) ≤ 65536
range_is_near wish_x wish_y wish aim part = scaled_le_by (wish *ℤ pos 256) (pos 65536) (wish_length wish_x wish_y) (above (wish_length wish_x wish_y) aim) part
  where
    above : (n : ℕ) → nat_lt 0 n ≡ true → 0 < n
    above n h = grind (arith, nat_tests)

pub stays_near : ShotsStayNear
stays_near origin wish_x wish_y k aim within =
    let way = way_along wish_x wish_y in
    let x = range_is_near wish_x wish_y wish_x aim (reaches_x (unsigned_abs (wish_x *ℤ pos 256)) (unsigned_abs (wish_y *ℤ pos 256))) in
    let y = range_is_near wish_x wish_y wish_y aim (reaches_y (unsigned_abs (wish_x *ℤ pos 256)) (unsigned_abs (wish_y *ℤ pos 256))) in
    let part_x = unsigned_abs-part_at_le (step_count way) k way.x within in
    let part_y = unsigned_abs-part_at_le (step_count way) k way.y within in
    let part_z = unsigned_abs-part_at_le (step_count way) k (pos 0) within in
    all_three (half_on origin.x (part_at (step_count way) k way.x) 65536 (omega (arith, x, part_x)))
    (half_on origin.y (part_at (step_count way) k way.y) 65536 (omega (arith, y, part_y)))
    (half_on origin.z (part_at (step_count way) k (pos 0)) 0 (omega (arith, part_z)))

-- ---- a shot stays in its range

-- a part of a way that goes on an axis from one place to another is between them
between_on : (lo hi part way : ℤ) → unsigned_abs part ≤ unsigned_abs way → (pos 0 ≤ℤ way → pos 0 ≤ℤ part) → (way ≤ℤ pos 0 → part ≤ℤ pos 0)
    → contains_on (int_min lo (lo +ℤ way)) (int_max hi (hi +ℤ way)) (lo +ℤ part) (hi +ℤ part) ≡ true
between_on lo hi part way near up down = grind (arith, ints)

-- a part that has come has the sign of its way
part_up : (n k : ℕ) (part : ℤ) → pos 0 ≤ℤ part → pos 0 ≤ℤ part_at n k part
part_up n k (pos a) from = omega (arith, ints)
part_up n k (negsuc a) from = absurd (omega (arith, ints, from))

part_down : (n k : ℕ) (part : ℤ) → k ≤ n → part ≤ℤ pos 0 → part_at n k part ≤ℤ pos 0
part_down n k (pos zero) within to = omega (arith, ints, unsigned_abs-part_at_le n k (pos 0) within)
part_down n k (pos (suc a)) within to = absurd (omega (arith, ints, to))
part_down n k (negsuc a) within to = rw (part_at-neg n k a) (omega (arith, ints))

pub stays_in_range : ShotsStayInRange
stays_in_range origin way k within =
    let n = step_count way in
    let b = shot_box origin in
    all_three
    (between_on b.lo.x b.hi.x (part_at n k way.x) way.x (unsigned_abs-part_at_le n k way.x within) (part_up n k way.x) (part_down n k way.x within))
    (between_on b.lo.y b.hi.y (part_at n k way.y) way.y (unsigned_abs-part_at_le n k way.y within) (part_up n k way.y) (part_down n k way.y within))
    (between_on b.lo.z b.hi.z (part_at n k way.z) way.z (unsigned_abs-part_at_le n k way.z within) (part_up n k way.z) (part_down n k way.z within))
