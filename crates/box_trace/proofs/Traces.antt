-- The trace out of what a body meets first, and that there is one trace.
use Rattle.std.proofs.Common.{◌≡◌, ℕ, zero, suc, ◌+◌, ◌-◌, ◌≤◌, Bool, true, false, cond, not, ◌&&◌, ◌||◌, List, Option, Some, None, option_map, is_none, refl, sym, ap, ◌∙◌, arith, subst, add-one}
use Rattle.std.specs.Cmp.Derive.{both_true}
use Rattle.std.proofs.lemmas.Bool.{eq-eqb, ne_eqb, both_ways, not-true, and_parts}
use Rattle.arena_geo.specs.declared.vec3.Vec3.{Vec3}
use Rattle.arena_geo.specs.Bounds.{Bounds}
use Rattle.arena_geo.specs.Boxes.{overlaps_on, overlaps, is_blocked}
use Rattle.box_trace.specs.declared.axis.Axis.TheVariants.{X, Y, Z}
use Rattle.box_trace.specs.declared.hit.Hit.{Hit}
use Rattle.box_trace.specs.declared.meeting.Meeting.{Meeting}
use Rattle.box_trace.specs.Axes.{number_of}
use Rattle.box_trace.specs.Steps.{step_count, body_at}
use Rattle.box_trace.specs.Traces.{IsFree, IsTrace, apart_axis, axis_after, block_at, is_free, greatest, free_steps, hit_after, trace_of, is_inside_block}
use Rattle.box_trace.specs.Laws.{TraceIsUnique}
use Rattle.box_trace.specs.Meetings.{MeetsFirst, IsFirstMeeting, hit_of}
use Rattle.box_trace.proofs.Firsts.{find_where_none, slice_get_first}
use Rattle.box_trace.proofs.FirstMeetings.{IsFree-more}

-- a step that is blocked bounds what is free
free_below : (body : Bounds) (d : Vec3) (solids : List Bounds) (m : Meeting) (k : ℕ) → MeetsFirst body d solids m
    → IsFree body d solids k → m.step ≤ k → ⊥
free_below body d solids m k meets free above =
    let none = find_where_none (overlaps (body_at body d m.step)) solids (free.free m.step meets.on_way.from above) in
    let some = meets.meets.solid in
    cc

not_above : (j k : ℕ) → (j ≤ k → ⊥) → k ≤ j - 1
not_above j k refuted = grind arith

IsTrace-Some : (body : Bounds) (d : Vec3) (solids : List Bounds) (m : Meeting) → MeetsFirst body d solids m
    → IsTrace body d solids (hit_of body d (Some m))
IsTrace-Some body d solids m meets =
    let on = meets.on_way in
    let next : m.step - 1 + 1 ≡ m.step = omega arith in
    record {
      within = omega arith;
      free = meets.free;
      most = λ k within free. not_above m.step k (free_below body d solids m k meets free);
      whole = sym (ne_eqb (m.step - 1) (step_count d) (λ e. omega arith));
      block = rw next (sym meets.meets.block);
      axis = rw next (rw meets.meets.solid refl);
    }

-- the answer for what a body meets first is its trace
pub IsTrace-hit_of : (body : Bounds) (d : Vec3) (solids : List Bounds) (first : Option Meeting)
    → IsFirstMeeting body d solids first → IsTrace body d solids (hit_of body d first)
IsTrace-hit_of body d solids None free = record {
  within = omega arith;
  free = free;
  most = λ k within _. within;
  whole = sym (eq-eqb (step_count d) (step_count d) refl);
  block = refl;
  axis = refl;
}
IsTrace-hit_of body d solids (Some m) meets = IsTrace-Some body d solids m meets

-- ---- the greatest number that passes
greatest_within : (p : ℕ → Bool) (n : ℕ) → greatest p n ≤ n
greatest_within p zero = omega arith
greatest_within p (suc n) = by_test (p (suc n)) (greatest_within p n) where
  by_test : (t : Bool) → greatest p n ≤ n → cond t (suc n) (greatest p n) ≤ suc n
  by_test true below = omega arith
  by_test false below = omega arith

greatest_passes : (p : ℕ → Bool) (n : ℕ) → p 0 ≡ true → p (greatest p n) ≡ true
greatest_passes p zero at_zero = at_zero
greatest_passes p (suc n) at_zero = by_test (p (suc n)) refl (greatest_passes p n at_zero) where
  by_test : (t : Bool) → p (suc n) ≡ t → p (greatest p n) ≡ true → p (cond t (suc n) (greatest p n)) ≡ true
  by_test true e below = e
  by_test false e below = below

greatest_most : (p : ℕ → Bool) (n k : ℕ) → k ≤ n → p k ≡ true → k ≤ greatest p n
greatest_most p zero k within pass = within
greatest_most p (suc n) k within pass = by_test (p (suc n)) refl (λ h. greatest_most p n k h pass) where
  by_test : (t : Bool) → p (suc n) ≡ t → (k ≤ n → k ≤ greatest p n) → k ≤ cond t (suc n) (greatest p n)
  by_test true e below = within
  by_test false e below =
      let other : k ≡ suc n → ⊥ = λ same. both_ways (p k) (ap p same ∙ e) pass in below (omega arith)

-- ---- `is_free` is the test of being free
free_from_test : (body : Bounds) (d : Vec3) (solids : List Bounds) (k : ℕ) → is_free body d solids k ≡ true
    → IsFree body d solids k
free_from_test body d solids zero pass = record { free = λ i one within. absurd (omega arith) }
free_from_test body d solids (suc k) pass =
    let t = and_parts (is_free body d solids k) (not (is_blocked (body_at body d (suc k)) solids)) pass in
    let P : ℕ → Type 0 = λ j. is_blocked (body_at body d j) solids ≡ false in
    let next : is_blocked (body_at body d (k + 1)) solids ≡ false = subst P (sym (add-one k)) (not-true _ t.1) in
    let Q : ℕ → Type 0 = λ j. IsFree body d solids j in
    subst Q (add-one k) (IsFree-more body d solids k (free_from_test body d solids k t.0) next)

test_from_free : (body : Bounds) (d : Vec3) (solids : List Bounds) (k : ℕ) → IsFree body d solids k
    → is_free body d solids k ≡ true
test_from_free body d solids zero free = refl
test_from_free body d solids (suc k) free =
    both_true (test_from_free body d solids k (record { free = λ i one within. free.free i one (omega arith) })) (ap not (free.free (suc k) (omega arith) (omega arith)))

-- ---- the trace as a function
free_steps_within : (body : Bounds) (d : Vec3) (solids : List Bounds) → free_steps body d solids ≤ step_count d
free_steps_within body d solids = greatest_within (is_free body d solids) (step_count d)

IsFree-free_steps : (body : Bounds) (d : Vec3) (solids : List Bounds) → IsFree body d solids (free_steps body d solids)
IsFree-free_steps body d solids =
    free_from_test body d solids _ (greatest_passes (is_free body d solids) (step_count d) refl)

free_steps_most : (body : Bounds) (d : Vec3) (solids : List Bounds) (k : ℕ) → k ≤ step_count d → IsFree body d solids k
    → k ≤ free_steps body d solids
free_steps_most body d solids k within free =
    greatest_most (is_free body d solids) (step_count d) k within (test_from_free body d solids k free)

pub IsTrace-trace_of : (body : Bounds) (d : Vec3) (solids : List Bounds)
    → IsTrace body d solids (trace_of body d solids)
unfolding trace_of
IsTrace-trace_of body d solids = record {
  within = free_steps_within body d solids;
  free = IsFree-free_steps body d solids;
  most = free_steps_most body d solids;
  whole = refl;
  block = refl;
  axis = refl;
}

trace_from_steps : (body : Bounds) (d : Vec3) (solids : List Bounds) (hit : Hit) → IsTrace body d solids hit
    → hit ≡ hit_after body d solids hit.steps
trace_from_steps body d solids hit trace =
    let axis = trace.axis ∙ ap (λ (w : Bool). cond w None (axis_after body d solids hit.steps)) trace.whole in
    let block = trace.block ∙ ap (λ (w : Bool). cond w None (block_at body d solids (hit.steps + 1))) trace.whole in
    λ i. record { steps = hit.steps; whole = trace.whole i; axis = axis i; block = block i }

-- a trace is what the function gives
pub trace_of_is : (body : Bounds) (d : Vec3) (solids : List Bounds) (hit : Hit) → IsTrace body d solids hit
    → hit ≡ trace_of body d solids
unfolding trace_of
trace_of_is body d solids hit trace =
    let steps : hit.steps ≡ free_steps body d solids =
    omega (arith, free_steps_most body d solids hit.steps trace.within trace.free, trace.most (free_steps body d solids) (free_steps_within body d solids) (IsFree-free_steps body d solids)) in
    trace_from_steps body d solids hit trace ∙ ap (hit_after body d solids) steps

pub trace_is_unique : TraceIsUnique
trace_is_unique body d solids hit = (
  trace_of_is body d solids hit,
  λ same. (let P : Hit → Type 0 = λ h. IsTrace body d solids h in subst P (sym same) (IsTrace-trace_of body d solids)),
)

-- ---- what is None when
apart_axis-is_none : (a b : Bounds) → is_none (apart_axis a b) ≡ overlaps a b
apart_axis-is_none a b = by_tests (overlaps_on a.lo.x a.hi.x b.lo.x b.hi.x) (overlaps_on a.lo.y a.hi.y b.lo.y b.hi.y) (overlaps_on a.lo.z a.hi.z b.lo.z b.hi.z) where
  by_tests : (x y z : Bool)
      → is_none (option_map number_of (cond x (cond y (cond z None (Some Z)) (Some Y)) (Some X))) ≡ (x && y && z)
  by_tests true true true = refl
  by_tests true true false = refl
  by_tests true false z = refl
  by_tests false y z = refl

pub axis_is_none : (body : Bounds) (d : Vec3) (solids : List Bounds) (first : Option Meeting) → IsFirstMeeting body d solids first → let hit = hit_of body d first in is_none hit.axis ≡ (hit.whole || is_inside_block body d solids hit)
axis_is_none body d solids None free = refl
axis_is_none body d solids (Some m) meets =
    rw (slice_get_first (overlaps (body_at body d m.step)) solids m.block m.solid meets.meets.block meets.meets.solid) (apart_axis-is_none (body_at body d (m.step - 1)) m.solid)

-- ---- the answers of the two programs
-- what the clauses of a trace say
pub record IsAnswer (body : Bounds) (d : Vec3) (solids : List Bounds) (hit : Hit) : Type 0 where
  pub is_trace : IsTrace body d solids hit
  pub value : hit ≡ trace_of body d solids
  pub axis : is_none hit.axis ≡ (hit.whole || is_inside_block body d solids hit)

answer_of : (body : Bounds) (d : Vec3) (solids : List Bounds) (first : Option Meeting)
    → IsFirstMeeting body d solids first → IsAnswer body d solids (hit_of body d first)
answer_of body d solids first meets =
    let trace = IsTrace-hit_of body d solids first meets in
    record {
      is_trace = trace;
      value = trace_of_is body d solids (hit_of body d first) trace;
      axis = axis_is_none body d solids first meets;
    }

-- the answer on a way, whose body and displacement are these
pub answer_on_way : (way_body body : Bounds) (way_d d : Vec3) (solids : List Bounds) (first : Option Meeting) (hit : Hit)
    → way_body ≡ body → way_d ≡ d → hit ≡ hit_of way_body way_d first → IsFirstMeeting way_body way_d solids first
    → IsAnswer body d solids hit
answer_on_way way_body body way_d d solids first hit body_is d_is hit_is meets =
    rw (← body_is, ← d_is, hit_is) (answer_of way_body way_d solids first meets)
