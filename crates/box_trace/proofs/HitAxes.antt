-- On which axis a body is stopped.
use Rattle.std.proofs.Common.{◌≡◌, ◌≢◌, ℕ, ◌+◌, ◌*◌, ◌/◌, Bool, true, false, cond, List, [], ◌∷◌, Option, Some, None, option_map, ℤ, pos, ◌+ℤ◌, refl, sym, ap, ◌∙◌, arith, subst}
use Rattle.std.specs.Prelude.{◌↔◌, find, option_and_then, slice_get}
use Rattle.std.proofs.Math.Nat.{zero-div}
use Rattle.std.proofs.lemmas.Bool.{both_ways}
use Rattle.std.proofs.lemmas.Option.{same_Some, get_or_from_slice_get}
use Rattle.arena_geo.specs.declared.vec3.Vec3.{Vec3}
use Rattle.arena_geo.specs.Vectors.{zero_vector}
use Rattle.arena_geo.specs.Bounds.{Bounds}
use Rattle.arena_geo.specs.Boxes.{overlaps_on, overlaps, box_moved_by}
use Rattle.arena_geo.proofs.Containment.{ThreePass, three_pass}
use Rattle.box_trace.specs.declared.axis.Axis.{Axis}
use Rattle.box_trace.specs.declared.axis.Axis.TheVariants.{X, Y, Z}
use Rattle.box_trace.specs.Axes.{number_of, part}
use Rattle.box_trace.specs.Steps.{step_count, part_at, body_at}
use Rattle.box_trace.specs.Traces.{separating_axis, apart_axis, axis_after, block_at, blocker_at, trace_of}
use Rattle.box_trace.specs.Laws.{IsMovedAlong, AxisIsMovedAlong, IsFirstFailing, x_fails, y_fails, z_fails, IsFirstApart, FirstAxisIsNamed}
use Rattle.box_trace.proofs.Firsts.{find-Some}
use Rattle.box_trace.proofs.Traces.{IsTrace-trace_of}

-- whether two boxes overlap on an axis
overlaps_along : Axis → Bounds → Bounds → Bool
overlaps_along X a b = overlaps_on a.lo.x a.hi.x b.lo.x b.hi.x
overlaps_along Y a b = overlaps_on a.lo.y a.hi.y b.lo.y b.hi.y
overlaps_along Z a b = overlaps_on a.lo.z a.hi.z b.lo.z b.hi.z

on_each : (a b : Bounds) → overlaps a b ≡ true
    → ThreePass (overlaps_on a.lo.x a.hi.x b.lo.x b.hi.x) (overlaps_on a.lo.y a.hi.y b.lo.y b.hi.y) (overlaps_on a.lo.z a.hi.z b.lo.z b.hi.z)
on_each a b h = three_pass _ _ _ h

overlap_along_each : (axis : Axis) (a b : Bounds) → overlaps a b ≡ true → overlaps_along axis a b ≡ true
unfolding overlaps_along
overlap_along_each X a b h = (on_each a b h).x
overlap_along_each Y a b h = (on_each a b h).y
overlap_along_each Z a b h = (on_each a b h).z

-- one of three tests
pick : Axis → Bool → Bool → Bool → Bool
pick X x y z = x
pick Y x y z = y
pick Z x y z = z

first_failing : (x y z : Bool) (axis : Axis) → cond x (cond y (cond z None (Some Z)) (Some Y)) (Some X) ≡ Some axis
    → pick axis x y z ≡ false
unfolding pick
first_failing true true true axis h = cc
first_failing true true false axis h = let P : Axis → Type 0 = λ a. pick a true true false ≡ false in subst P (same_Some Z axis h) refl
first_failing true false z axis h = let P : Axis → Type 0 = λ a. pick a true false z ≡ false in subst P (same_Some Y axis h) refl
first_failing false y z axis h = let P : Axis → Type 0 = λ a. pick a false y z ≡ false in subst P (same_Some X axis h) refl

pick-along : (axis : Axis) (a b : Bounds)
    → overlaps_along axis a b ≡ pick axis (overlaps_on a.lo.x a.hi.x b.lo.x b.hi.x) (overlaps_on a.lo.y a.hi.y b.lo.y b.hi.y) (overlaps_on a.lo.z a.hi.z b.lo.z b.hi.z)
unfolding overlaps_along pick
pick-along X a b = refl
pick-along Y a b = refl
pick-along Z a b = refl

-- boxes don't overlap on the axis that separates them
apart_along : (axis : Axis) (a b : Bounds) → separating_axis a b ≡ Some axis → overlaps_along axis a b ≡ false
apart_along axis a b h = pick-along axis a b ∙ first_failing _ _ _ axis h

-- ---- an axis along which the body doesn't move
pub part_at-none : (n k : ℕ) → part_at n k (pos 0) ≡ pos 0
part_at-none n k =
    let none : 0 * k ≡ 0 = omega arith in
    ap pos (ap (λ (m : ℕ). m / n) none ∙ zero-div n)

stays_along : (axis : Axis) (body : Bounds) (d : Vec3) (solid : Bounds) (k : ℕ) → part axis d ≡ pos 0
    → overlaps_along axis (body_at body d k) solid ≡ overlaps_along axis (box_moved_by body zero_vector) solid
unfolding overlaps_along
stays_along X body d solid k none =
    ap (λ (s : ℤ). overlaps_on (body.lo.x +ℤ s) (body.hi.x +ℤ s) solid.lo.x solid.hi.x) (ap (part_at (step_count d) k) none ∙ part_at-none (step_count d) k)
stays_along Y body d solid k none =
    ap (λ (s : ℤ). overlaps_on (body.lo.y +ℤ s) (body.hi.y +ℤ s) solid.lo.y solid.hi.y) (ap (part_at (step_count d) k) none ∙ part_at-none (step_count d) k)
stays_along Z body d solid k none =
    ap (λ (s : ℤ). overlaps_on (body.lo.z +ℤ s) (body.hi.z +ℤ s) solid.lo.z solid.hi.z) (ap (part_at (step_count d) k) none ∙ part_at-none (step_count d) k)

-- a solid that is apart on an axis at one step, and overlaps at the next, is met along that axis
moves_along : (axis : Axis) (body : Bounds) (d : Vec3) (solid : Bounds) (k : ℕ)
    → separating_axis (body_at body d k) solid ≡ Some axis → overlaps (body_at body d (k + 1)) solid ≡ true
    → part axis d ≢ pos 0
moves_along axis body d solid k apart meets none =
    both_ways (overlaps_along axis (box_moved_by body zero_vector) solid)
    (sym (stays_along axis body d solid k none) ∙ apart_along axis (body_at body d k) solid apart)
    (sym (stays_along axis body d solid (k + 1) none) ∙ overlap_along_each axis (body_at body d (k + 1)) solid meets)

-- ---- the axis of a trace
find_passes : (p : Bounds → Bool) (xs : List Bounds) (x : Bounds) → find p xs ≡ Some x → p x ≡ true
find_passes p [] x h = cc
find_passes p (y ∷ xs) x h = by_test (p y) refl h (find_passes p xs x) where
  by_test : (t : Bool) → p y ≡ t → cond t (Some y) (find p xs) ≡ Some x → (find p xs ≡ Some x → p x ≡ true) → p x ≡ true
  by_test true is found later = ap p (sym (same_Some y x found)) ∙ is
  by_test false is found later = later found

named_axis : (d : Vec3) (number : ℕ) (axis : Option Axis) → option_map number_of axis ≡ Some number
    → ((a : Axis) → axis ≡ Some a → part a d ≢ pos 0) → IsMovedAlong d number
named_axis d number None h each = cc
named_axis d number (Some a) h each = record { axis = a; named = sym (same_Some (number_of a) number h); moves = each a refl }

along_blocker : (body : Bounds) (d : Vec3) (solids : List Bounds) (k number : ℕ) (blocker : Option Bounds)
    → blocker_at body d solids (k + 1) ≡ blocker → option_and_then (apart_axis (body_at body d k)) blocker ≡ Some number
    → IsMovedAlong d number
along_blocker body d solids k number None is h = cc
along_blocker body d solids k number (Some solid) is h =
    named_axis d number (separating_axis (body_at body d k) solid) h (λ a apart. moves_along a body d solid k apart (find_passes (overlaps (body_at body d (k + 1))) solids solid is))

moved_along : (body : Bounds) (d : Vec3) (solids : List Bounds) (k number : ℕ) (whole : Bool)
    → cond whole None (axis_after body d solids k) ≡ Some number → IsMovedAlong d number
moved_along body d solids k number true h = cc
moved_along body d solids k number false h = along_blocker body d solids k number (blocker_at body d solids (k + 1)) refl h

pub axis_is_moved_along : AxisIsMovedAlong
axis_is_moved_along body d solids number h =
    let hit = trace_of body d solids in
    moved_along body d solids hit.steps number hit.whole (sym (IsTrace-trace_of body d solids).axis ∙ h)

-- ---- which axis that is
first_failing_of : (x y z : Bool) (number : ℕ)
    → option_map number_of (cond x (cond y (cond z None (Some Z)) (Some Y)) (Some X)) ≡ Some number
    → IsFirstFailing x y z number
first_failing_of true true true number h = cc
first_failing_of true true false number h = z_fails refl refl refl (sym (same_Some 2 number h))
first_failing_of true false z number h = y_fails refl refl (sym (same_Some 1 number h))
first_failing_of false y z number h = x_fails refl (sym (same_Some 0 number h))

axis_of_first : (x y z : Bool) (number : ℕ) → IsFirstFailing x y z number
    → option_map number_of (cond x (cond y (cond z None (Some Z)) (Some Y)) (Some X)) ≡ Some number
axis_of_first x y z number (x_fails a is) = rw a (ap Some (sym is))
axis_of_first x y z number (y_fails a b is) = rw (a, b) (ap Some (sym is))
axis_of_first x y z number (z_fails a b c is) = rw (a, b, c) (ap Some (sym is))

first_apart : (a b : Bounds) (number : ℕ) → (apart_axis a b ≡ Some number) ↔ IsFirstApart a b number
first_apart a b number = (
  first_failing_of (overlaps_on a.lo.x a.hi.x b.lo.x b.hi.x) (overlaps_on a.lo.y a.hi.y b.lo.y b.hi.y) (overlaps_on a.lo.z a.hi.z b.lo.z b.hi.z) number,
  axis_of_first (overlaps_on a.lo.x a.hi.x b.lo.x b.hi.x) (overlaps_on a.lo.y a.hi.y b.lo.y b.hi.y) (overlaps_on a.lo.z a.hi.z b.lo.z b.hi.z) number,
)

-- where a trace names a solid, its axis is that on which the body is apart from this solid
axis_by_solid : (body : Bounds) (d : Vec3) (solids : List Bounds) (k block : ℕ) (solid : Bounds) (whole : Bool)
    → cond whole None (block_at body d solids (k + 1)) ≡ Some block → slice_get solids block ≡ Some solid
    → cond whole None (axis_after body d solids k) ≡ apart_axis (body_at body d k) solid
axis_by_solid body d solids k block solid true named there = cc
axis_by_solid body d solids k block solid false named there =
    ap (option_and_then (apart_axis (body_at body d k))) (find-Some (overlaps (body_at body d (k + 1))) solids block solid named (sym (get_or_from_slice_get solids block solid solid there)))

same_axis : (axis other : Option ℕ) (number : ℕ) (P : Type 0) → axis ≡ other → ((other ≡ Some number) ↔ P)
    → (axis ≡ Some number) ↔ P
same_axis axis other number P is each = rw is each

pub first_axis_is_named : FirstAxisIsNamed
first_axis_is_named body d solids block solid number named there =
    let hit = trace_of body d solids in
    let trace = IsTrace-trace_of body d solids in
    let at = axis_by_solid body d solids hit.steps block solid hit.whole (sym trace.block ∙ named) there in
    same_axis hit.axis (apart_axis (body_at body d hit.steps) solid) number _ (trace.axis ∙ at) (first_apart (body_at body d hit.steps) solid number)
