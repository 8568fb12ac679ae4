-- Solids that agree where a body comes: traces and slides there are the same.
use Rattle.std.proofs.Common.{◌≡◌, ℕ, zero, suc, ◌+◌, ◌≤◌, ◌==◌, Bool, true, false, cond, if◌then◌else◌, List, [], ◌∷◌, Option, Some, None, IfSome, ℤ, refl, sym, ap, ◌∙◌, subst, arith}
use Rattle.std.specs.Prelude.{find}
use Rattle.std.specs.List.{filter}
use Rattle.std.specs.Option.{option_map_or, option_and_then}
use Rattle.std.proofs.lemmas.Int.{ints}
use Rattle.std.proofs.lemmas.Bool.Decides.{nat_tests}
use Rattle.std.proofs.lemmas.Map.Views.{any-filter_same}
use Rattle.arena_geo.specs.declared.vec3.Vec3.{Vec3}
use Rattle.arena_geo.specs.Vectors.{plus, minus}
use Rattle.arena_geo.specs.Bounds.{Bounds}
use Rattle.arena_geo.specs.Boxes.{overlaps_on, overlaps, contains_on, contains, box_moved_by, is_blocked}
use Rattle.arena_geo.proofs.Containment.{three_pass, all_three}
use Rattle.box_trace.specs.Steps.{step_count, shift_at, body_at}
use Rattle.box_trace.specs.Traces.{IsFree, apart_axis, axis_after, trace_of}
use Rattle.box_trace.proofs.Traces.{IsTrace-trace_of}
use Rattle.slide_move.specs.declared.slid.Slid.{Slid}
use Rattle.slide_move.specs.declared.leg.Leg.{Leg}
use Rattle.slide_move.specs.Displacements.{displacement}
use Rattle.slide_move.specs.Slides.{still, slide_then, last_leg, stopped_leg, leg_of, slide_along, slide_of}
use Rattle.slide_move.specs.Changes.{IsPartOfWay}
use Rattle.slide_move.proofs.Ways.{moved-moved, IsPartOfWay-shift_at, IsPartOfWay-trans, IsPartOfWay-plus}
use Rattle.slide_move.proofs.Legs.{IsLeg-leg_of}

-- ---- solids that overlap a region
overlaps_on-contained : (lo hi l h from to : ℤ) → contains_on lo hi l h ≡ true → overlaps_on l h from to ≡ true → overlaps_on lo hi from to ≡ true
overlaps_on-contained lo hi l h from to contained overlap = grind (arith, ints)

-- what overlaps a body overlaps each region that contains the body
overlaps-contained : (region body solid : Bounds) → contains region body ≡ true → overlaps body solid ≡ true → overlaps region solid ≡ true
overlaps-contained region body solid contained overlap =
    let t = three_pass _ _ _ contained in
    let u = three_pass _ _ _ overlap in
    all_three (overlaps_on-contained region.lo.x region.hi.x body.lo.x body.hi.x solid.lo.x solid.hi.x t.x u.x) (overlaps_on-contained region.lo.y region.hi.y body.lo.y body.hi.y solid.lo.y solid.hi.y t.y u.y) (overlaps_on-contained region.lo.z region.hi.z body.lo.z body.hi.z solid.lo.z solid.hi.z t.z u.z)

module _ (p q : Bounds → Bool) (more : (s : Bounds) → p s ≡ true → q s ≡ true) where
  find-filter : (solids : List Bounds) → find p (filter q solids) ≡ find p solids
  find-filter [] = refl
  find-filter (s ∷ solids) = by_tests (q s) (p s) refl refl (find-filter solids) where
    by_tests : (keeps passes : Bool) → q s ≡ keeps → p s ≡ passes → find p (filter q solids) ≡ find p solids → find p (cond keeps (s ∷ filter q solids) (filter q solids)) ≡ cond passes (Some s) (find p solids)
    by_tests true true keeps passes rest = rw passes refl
    by_tests true false keeps passes rest = rw passes rest
    by_tests false true keeps passes rest = let kept = more s passes in cc
    by_tests false false keeps passes rest = rest

-- where the body lies in the region, the same solid is the first to block it
pub record Agree (region : Bounds) (solids others : List Bounds) : Type 0 where
  pub blocked : (b : Bounds) → contains region b ≡ true → is_blocked b solids ≡ is_blocked b others
  pub first : (b : Bounds) → contains region b ≡ true → find (overlaps b) solids ≡ find (overlaps b) others

pub Agree-filter : (region : Bounds) (solids others : List Bounds) → filter (overlaps region) solids ≡ filter (overlaps region) others → Agree region solids others
Agree-filter region solids others same = record {
  blocked = λ b inside.
      let more : (s : Bounds) → overlaps b s ≡ true → overlaps region s ≡ true = λ s. overlaps-contained region b s inside in
      sym (any-filter_same (overlaps b) (overlaps region) true more solids)
      ∙ ap (is_blocked b) same
      ∙ any-filter_same (overlaps b) (overlaps region) true more others;
  first = λ b inside.
      let more : (s : Bounds) → overlaps b s ≡ true → overlaps region s ≡ true = λ s. overlaps-contained region b s inside in
      sym (find-filter (overlaps b) (overlaps region) more solids)
      ∙ ap (find (overlaps b)) same
      ∙ find-filter (overlaps b) (overlaps region) more others;
}

Agree-sym : (region : Bounds) (solids others : List Bounds) → Agree region solids others → Agree region others solids
Agree-sym region solids others agree = record {
  blocked = λ b inside. sym (agree.blocked b inside);
  first = λ b inside. sym (agree.first b inside);
}

-- the body lies in the region wherever it comes on a part of its way
pub record Stays (region body : Bounds) (way : Vec3) : Type 0 where
  pub inside : (shift : Vec3) → IsPartOfWay way shift → contains region (box_moved_by body shift) ≡ true

-- ---- traces
stays_at : (region body : Bounds) (way : Vec3) (k : ℕ) → Stays region body way → k ≤ step_count way → contains region (body_at body way k) ≡ true
stays_at region body way k stays within = stays.inside (shift_at way k) (IsPartOfWay-shift_at way k within)

free_over : (region body : Bounds) (way : Vec3) (solids others : List Bounds) (k : ℕ) → Agree region solids others → Stays region body way → k ≤ step_count way → IsFree body way solids k → IsFree body way others k
free_over region body way solids others k agree stays within free = record {
  free = λ i from below. sym (agree.blocked (body_at body way i) (stays_at region body way i stays (omega arith))) ∙ free.free i from below;
}

steps_le : (region body : Bounds) (way : Vec3) (solids others : List Bounds) → Agree region solids others → Stays region body way → (trace_of body way solids).steps ≤ (trace_of body way others).steps
steps_le region body way solids others agree stays =
    let is = IsTrace-trace_of body way solids in
    (IsTrace-trace_of body way others).most (trace_of body way solids).steps is.within (free_over region body way solids others _ agree stays is.within is.free)

pub same_steps : (region body : Bounds) (way : Vec3) (solids others : List Bounds) → Agree region solids others → Stays region body way → (trace_of body way solids).steps ≡ (trace_of body way others).steps
same_steps region body way solids others agree stays =
    let there = steps_le region body way solids others agree stays in
    let back = steps_le region body way others solids (Agree-sym region solids others agree) stays in
    omega arith

next_within : (k n : ℕ) → false ≡ (k == n) → k ≤ n → k + 1 ≤ n
next_within k n other within = grind (arith, nat_tests)

same_axis : (region body : Bounds) (way : Vec3) (solids others : List Bounds) → Agree region solids others → Stays region body way → (whole : Bool) (k : ℕ) → whole ≡ (k == step_count way) → k ≤ step_count way → (if whole then None else axis_after body way solids k) ≡ (if whole then None else axis_after body way others k)
same_axis region body way solids others agree stays true k is within = refl
same_axis region body way solids others agree stays false k is within =
    ap (option_and_then (apart_axis (body_at body way k))) (agree.first (body_at body way (k + 1)) (stays_at region body way (k + 1) stays (next_within k (step_count way) is within)))

-- the leg of a trace, without the place of the solid that stops it
leg_by : Vec3 → Vec3 → ℕ → Bool → Option ℕ → Leg
leg_by vel way steps whole axis =
    let shift = shift_at way steps in
    if whole then last_leg shift vel else stopped_leg shift vel (minus way shift) axis

same_leg : (region body : Bounds) (vel way : Vec3) (solids others : List Bounds) → Agree region solids others → Stays region body way → leg_of body vel way solids ≡ leg_of body vel way others
unfolding leg_of leg_by
same_leg region body vel way solids others agree stays =
    let hit = trace_of body way solids in
    let other = trace_of body way others in
    let is = IsTrace-trace_of body way solids in
    let other_is = IsTrace-trace_of body way others in
    let steps = same_steps region body way solids others agree stays in
    let whole : hit.whole ≡ other.whole =
    is.whole ∙ ap (λ (k : ℕ). k == step_count way) steps ∙ sym other_is.whole
    in
    let axis : hit.axis ≡ other.axis =
    is.axis
    ∙ same_axis region body way solids others agree stays hit.whole hit.steps is.whole is.within
    ∙ ap (λ (k : ℕ). if hit.whole then None else axis_after body way others k) steps
    ∙ ap (λ (w : Bool). if w then None else axis_after body way others other.steps) whole
    ∙ sym other_is.axis
    in
    λ i. leg_by vel way (steps i) (whole i) (axis i)

-- ---- slides
then_same : (f g : Vec3 → Slid) (rest : Option Vec3) (none : Slid) {Q : Vec3 → Type 0} → IfSome rest Q → ((r : Vec3) → Q r → f r ≡ g r) → option_map_or f rest none ≡ option_map_or g rest none
then_same f g None none is each = refl
then_same f g (Some r) none is each = each r is

stays_on : (region body : Bounds) (way shift rest : Vec3) → Stays region body way → IsPartOfWay way shift → IsPartOfWay (minus way shift) rest → Stays region (box_moved_by body shift) rest
stays_on region body way shift rest stays goes leaves = record {
  inside = λ s part.
      let P : Bounds → Type 0 = λ b. contains region b ≡ true in
      subst P (sym (moved-moved body shift s)) (stays.inside (plus shift s) (IsPartOfWay-plus way shift s goes (IsPartOfWay-trans (minus way shift) rest s leaves part)));
}

same_slide_along : (traces : ℕ) (region body : Bounds) (vel way : Vec3) (solids others : List Bounds) → Agree region solids others → Stays region body way → slide_along traces body vel way solids ≡ slide_along traces body vel way others
unfolding slide_along
same_slide_along zero region body vel way solids others agree stays = refl
same_slide_along (suc traces) region body vel way solids others agree stays =
    let leg = leg_of body vel way solids in
    let there = box_moved_by body leg.slid.shift in
    let is = IsLeg-leg_of body vel way solids in
    ap (slide_then leg.slid)
    (then_same (λ r. slide_along traces there leg.slid.vel r solids) (λ r. slide_along traces there leg.slid.vel r others) leg.rest (still leg.slid.vel) is.leaves (λ r leaves. same_slide_along traces region there leg.slid.vel r solids others agree (stays_on region body way leg.slid.shift r stays is.goes leaves)))
    ∙ ap (λ (t : Leg). slide_then t.slid (option_map_or (λ r. slide_along traces (box_moved_by body t.slid.shift) t.slid.vel r others) t.rest (still t.slid.vel))) (same_leg region body vel way solids others agree stays)

pub same_slide : (region body : Bounds) (vel : Vec3) (ms : ℕ) (solids others : List Bounds) → Agree region solids others → Stays region body (displacement vel ms) → slide_of body vel ms solids ≡ slide_of body vel ms others
unfolding slide_of
same_slide region body vel ms solids others agree stays =
    same_slide_along 4 region body vel (displacement vel ms) solids others agree stays
