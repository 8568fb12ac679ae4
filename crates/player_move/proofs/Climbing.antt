-- What stairs are: up, along the level, and down again.
use Rattle.std.proofs.Common.{◌≡◌, ℕ, zero, suc, ◌+◌, ◌-◌, ◌<◌, ◌≤◌, true, false, ◌⊎◌, inl, inr, List, ℤ, pos, neg_ℤ, ◌+ℤ◌, refl, sym, ap, ◌∙◌, subst, arith}
use Rattle.std.proofs.Math.Nat.{mul-div_cancel_left}
use Rattle.std.proofs.lemmas.Bool.{cases_lt, true_from_ne_false}
use Rattle.std.proofs.lemmas.Int.{ints}
use Rattle.arena_geo.specs.declared.vec3.Vec3.{Vec3}
use Rattle.arena_geo.specs.Vectors.{vector, plus}
use Rattle.arena_geo.specs.Bounds.{Bounds}
use Rattle.arena_geo.specs.Boxes.{box_moved_by, is_blocked}
use Rattle.box_trace.specs.Steps.{step_count, part_at, shift_at, body_at}
use Rattle.box_trace.specs.Traces.{trace_of}
use Rattle.box_trace.proofs.Parts.{part_at-neg, unsigned_abs-part_at}
use Rattle.box_trace.proofs.FirstMeetings.{IsFree-more}
use Rattle.box_trace.proofs.Traces.{IsTrace-trace_of}
use Rattle.box_trace.proofs.HitAxes.{part_at-none}
use Rattle.slide_move.specs.declared.slid.Slid.{Slid}
use Rattle.slide_move.specs.Slides.{slide_of}
use Rattle.slide_move.proofs.Slides.{shift_is_part}
use Rattle.slide_move.proofs.Ways.{moved-moved}
use Rattle.player_move.specs.Walks.{upwards, downwards, level, ground_of, way_of, stairs_of}
use Rattle.player_move.specs.Laws.{AreStairs, StairsGoUpAndDown}

-- ---- each step of a way up or down is 1 high

part_at-up : (n k : ℕ) → k ≤ n → part_at n k (pos n) ≡ pos k
part_at-up zero k within =
    let none : k ≡ 0 = omega arith in part_at-none 0 k ∙ ap pos (sym none)
part_at-up (suc n) k within =
    let positive : zero < suc n = omega arith in ap pos (mul-div_cancel_left k positive)

part_at-down : (n k : ℕ) → k ≤ n → part_at n k (neg_ℤ (pos n)) ≡ neg_ℤ (pos k)
part_at-down zero k within =
    let none : k ≡ 0 = omega arith in part_at-none 0 k ∙ ap (λ (m : ℕ). neg_ℤ (pos m)) (sym none)
part_at-down (suc n) k within =
    let positive : zero < suc n = omega arith in
    part_at-neg (suc n) k n ∙ ap (λ (m : ℕ). neg_ℤ (pos m)) (mul-div_cancel_left k positive)

steps_up : (n : ℕ) → step_count (upwards n) ≡ n
steps_up n = omega arith

steps_down : (n : ℕ) → step_count (downwards n) ≡ n
steps_down n = omega (arith, ints)

shift_at-upwards : (n k : ℕ) → k ≤ n → shift_at (upwards n) k ≡ upwards k
shift_at-upwards n k within =
    let z = ap (λ (m : ℕ). part_at m k (pos n)) (steps_up n) ∙ part_at-up n k within in
    let none = part_at-none (step_count (upwards n)) k in
    λ i. record { x = none i; y = none i; z = z i }

shift_at-downwards : (n k : ℕ) → k ≤ n → shift_at (downwards n) k ≡ downwards k
shift_at-downwards n k within =
    let z = ap (λ (m : ℕ). part_at m k (neg_ℤ (pos n))) (steps_down n) ∙ part_at-down n k within in
    let none = part_at-none (step_count (downwards n)) k in
    λ i. record { x = none i; y = none i; z = z i }

-- ---- where the way down ends
one_lower : (k : ℕ) → plus (downwards k) (downwards 1) ≡ downwards (k + 1)
one_lower k =
    let none : (pos 0 +ℤ pos 0) ≡ pos 0 = omega (arith, ints) in
    let z : (neg_ℤ (pos k) +ℤ neg_ℤ (pos 1)) ≡ neg_ℤ (pos (k + 1)) = omega (arith, ints) in
    λ i. record { x = none i; y = none i; z = z i }

blocked_below : (body : Bounds) (n k : ℕ) (solids : List Bounds) → k + 1 ≤ n
    → ground_of (box_moved_by body (downwards k)) solids ≡ is_blocked (body_at body (downwards n) (k + 1)) solids
unfolding ground_of
blocked_below body n k solids within =
    let same = moved-moved body (downwards k) (downwards 1) ∙ ap (box_moved_by body) (one_lower k ∙ sym (shift_at-downwards n (k + 1) within)) in
    ap (λ (b : Bounds). is_blocked b solids) same

-- it goes on where nothing blocks it
goes_on : (body : Bounds) (n k : ℕ) (solids : List Bounds) → k ≡ (trace_of body (downwards n) solids).steps → k < n
    → is_blocked (body_at body (downwards n) (k + 1)) solids ≡ false → ⊥
goes_on body n k solids is more free =
    let trace = IsTrace-trace_of body (downwards n) solids in
    let P : ℕ → Type 0 = λ j. is_blocked (body_at body (downwards n) (j + 1)) solids ≡ false in
    let next = trace.most ((trace_of body (downwards n) solids).steps + 1) (omega (arith, steps_down n)) (IsFree-more body (downwards n) solids _ trace.free (subst P is free)) in
    omega (arith, next)

ends_at : (body : Bounds) (n k : ℕ) (solids : List Bounds) → k ≡ (trace_of body (downwards n) solids).steps
    → (n ≤ k) ⊎ (ground_of (box_moved_by body (downwards k)) solids ≡ true)
ends_at body n k solids is =
    elim (cases_lt k n) [
      | inl more ↦ inr (blocked_below body n k solids (omega (arith, more)) ∙ true_from_ne_false _ (goes_on body n k solids is more))
      | inr all ↦ inl all
    ]

-- ---- the whole
level_slide : (body : Bounds) (vel : Vec3) (ms : ℕ) (solids : List Bounds) → (slide_of body (level vel) ms solids).shift.z ≡ pos 0
level_slide body vel ms solids =
    let part = (shift_is_part body (level vel) ms solids).z in
    let size = unsigned_abs-part_at 1000 ms (pos 0) in
    omega (arith, ints, part.no_farther, size)

over_the_ground : (a : ℤ) → ((pos 0 +ℤ a) +ℤ pos 0) ≡ a
over_the_ground a = omega (arith, ints)

-- the place at a height, as the way down comes to it
at_height : (rise height i : ℕ) (shift : Vec3) → shift.z ≡ pos 0 → i + height ≡ rise
    → vector shift.x shift.y (pos height) ≡ plus (plus (upwards rise) shift) (downwards i)
at_height rise height i shift flat sum =
    let x = over_the_ground shift.x in
    let y = over_the_ground shift.y in
    let z : pos height ≡ ((pos rise +ℤ shift.z) +ℤ neg_ℤ (pos i)) = omega (arith, ints, flat, sum) in
    λ j. record { x = sym x j; y = sym y j; z = z j }

free_at : (body : Bounds) (solids : List Bounds) (rise height k : ℕ) (shift : Vec3) → shift.z ≡ pos 0
    → ((i : ℕ) → 1 ≤ i → i ≤ k → is_blocked (box_moved_by (box_moved_by body (plus (upwards rise) shift)) (downwards i)) solids ≡ false)
    → rise ≤ k + height → height < rise → is_blocked (box_moved_by body (vector shift.x shift.y (pos height))) solids ≡ false
free_at body solids rise height k shift flat free above below =
    let same = ap (box_moved_by body) (at_height rise height (rise - height) shift flat (omega arith)) ∙ sym (moved-moved body (plus (upwards rise) shift) (downwards (rise - height))) in
    ap (λ (b : Bounds). is_blocked b solids) same ∙ free (rise - height) (omega arith) (omega arith)

are_stairs : (body : Bounds) (solids : List Bounds) (rise : ℕ) (along : Slid) (k : ℕ) → along.shift.z ≡ pos 0 → k ≤ rise
    → ((i : ℕ) → 1 ≤ i → i ≤ k → is_blocked (box_moved_by (box_moved_by body (plus (upwards rise) along.shift)) (downwards i)) solids ≡ false)
    → (rise ≤ k) ⊎ (ground_of (box_moved_by (box_moved_by body (plus (upwards rise) along.shift)) (downwards k)) solids ≡ true)
    → AreStairs body solids rise along (record { shift = plus (plus (upwards rise) along.shift) (downwards k); vel = level along.vel })
are_stairs body solids rise along k flat within free ends = record {
  x = over_the_ground along.shift.x;
  y = over_the_ground along.shift.y;
  vel = refl;
  lowest = omega (arith, ints, flat);
  highest = omega (arith, ints, flat);
  free = λ height above below. free_at body solids rise height k along.shift flat free (omega (arith, ints, flat, above)) below;
  ends = elim ends [
    | inl all ↦ inl (omega (arith, ints, flat, all))
    | inr there ↦ inr (ap (λ (b : Bounds). ground_of b solids) (sym (moved-moved body (plus (upwards rise) along.shift) (downwards k))) ∙ there)
  ];
}

with_way_down : (body : Bounds) (solids : List Bounds) (rise : ℕ) (along : Slid) → along.shift.z ≡ pos 0
    → AreStairs body solids rise along (record { shift = plus (plus (upwards rise) along.shift) (way_of (box_moved_by body (plus (upwards rise) along.shift)) (downwards rise) solids); vel = level along.vel })
with_way_down body solids rise along flat =
    let there = box_moved_by body (plus (upwards rise) along.shift) in
    let k = (trace_of there (downwards rise) solids).steps in
    let few : k ≤ rise = omega (arith, (IsTrace-trace_of there (downwards rise) solids).within, steps_down rise) in
    let free = λ (i : ℕ) (one : 1 ≤ i) (within : i ≤ k).
    ap (λ (v : Vec3). is_blocked (box_moved_by there v) solids) (sym (shift_at-downwards rise i (omega (arith, few, within)))) ∙ (IsTrace-trace_of there (downwards rise) solids).free.free i one within
    in
    let P : Vec3 → Type 0 = λ v. AreStairs body solids rise along (record { shift = plus (plus (upwards rise) along.shift) v; vel = level along.vel }) in
    subst P (sym (shift_at-downwards rise k few)) (are_stairs body solids rise along k flat few free (ends_at there rise k solids refl))

pub stairs_go_up_and_down : StairsGoUpAndDown
unfolding stairs_of
stairs_go_up_and_down body vel ms solids =
    let rise = (trace_of body (upwards 4608) solids).steps in
    let few : rise ≤ 4608 = omega (arith, (IsTrace-trace_of body (upwards 4608) solids).within, steps_up 4608) in
    let along : Vec3 → Slid = λ up. slide_of (box_moved_by body up) (level vel) ms solids in
    let P : Vec3 → Type 0 = λ up. AreStairs body solids rise (along (upwards rise)) (record { shift = plus (plus up (along up).shift) (way_of (box_moved_by body (plus up (along up).shift)) (downwards rise) solids); vel = level (along up).vel }) in
    subst P (sym (shift_at-upwards 4608 rise few)) (with_way_down body solids rise (along (upwards rise)) (level_slide (box_moved_by body (upwards rise)) vel ms solids))
