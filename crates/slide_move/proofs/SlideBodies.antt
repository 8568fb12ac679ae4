-- Where a body comes on its slide.
use Rattle.std.proofs.Common.{◌≡◌, ℕ, zero, suc, ◌≤◌, false, List, [], ◌∷◌, ◌++◌, Option, Some, None, IfSome, refl, sym, ap, ◌∙◌, subst, arith, rules}
use Rattle.std.specs.Prelude.{All}
use Rattle.std.specs.Option.{option_map_or}
use Rattle.std.proofs.lemmas.List.Elements.{All-append}
use Rattle.arena_geo.specs.declared.vec3.Vec3.{Vec3}
use Rattle.arena_geo.specs.Vectors.{plus, minus}
use Rattle.arena_geo.specs.Bounds.{Bounds, IsInRange}
use Rattle.arena_geo.specs.Boxes.{box_moved_by, is_blocked}
use Rattle.box_trace.specs.Steps.{step_count, shift_at, body_at}
use Rattle.box_trace.specs.Traces.{trace_of}
use Rattle.box_trace.proofs.Traces.{IsTrace-trace_of}
use Rattle.box_trace.proofs.Ranges.{IsInRange-body_at}
use Rattle.slide_move.specs.declared.slid.Slid.{Slid}
use Rattle.slide_move.specs.Displacements.{displacement}
use Rattle.slide_move.specs.Slides.{still, leg_of, slide_along, slide_of}
use Rattle.slide_move.specs.SlideBodies.{steps_to, bodies_along, bodies_on_slide, last_body}
use Rattle.slide_move.specs.Changes.{IsPartOfWay}
use Rattle.slide_move.specs.Laws.{BodiesAreFree, EndsAtLastBody, BodiesAreInRange}
use Rattle.slide_move.proofs.Ways.{moved-zero_vector, moved-moved, shift_at-zero, IsInRange-part, IsPartOfWay-plus}
use Rattle.slide_move.proofs.Legs.{IsLeg-leg_of, shift-leg_of}

pub All-none : (P : Bounds → Type 0) → All P []
All-none P = λ k d h. absurd (omega arith)

All-one : (P : Bounds → Type 0) (b : Bounds) → P b → All P (b ∷ [])
All-one P b p = search rules

-- what holds at each step holds of all the steps
pub All-steps_to : (P : Bounds → Type 0) (k : ℕ) (body : Bounds) (way : Vec3)
    → ((i : ℕ) → 1 ≤ i → i ≤ k → P (body_at body way i)) → All P (steps_to k body way)
All-steps_to P zero body way each = All-none P
All-steps_to P (suc k) body way each =
    All-append P (steps_to k body way) (body_at body way (suc k) ∷ [])
    (All-steps_to P k body way (λ i from within. each i from (omega arith)))
    (All-one P (body_at body way (suc k)) (each (suc k) (omega arith) (omega arith)))

pub All-then : (P : Bounds → Type 0) (f : Vec3 → List Bounds) (rest : Option Vec3) {Q : Vec3 → Type 0} → IfSome rest Q
    → ((r : Vec3) → Q r → All P (f r)) → All P (option_map_or f rest [])
All-then P f None is each = All-none P
All-then P f (Some r) is each = each r is

pub IsAnywhere : Vec3 → Type 0
IsAnywhere r = Unit {0}

pub anywhere : (rest : Option Vec3) → IfSome rest IsAnywhere
unfolding IsAnywhere
anywhere None = tt
anywhere (Some r) = tt

places_free_along : (traces : ℕ) (body : Bounds) (vel way : Vec3) (solids : List Bounds)
    → All (λ place. is_blocked place solids ≡ false) (bodies_along traces body vel way solids)
unfolding bodies_along
places_free_along zero body vel way solids = All-none _
places_free_along (suc traces) body vel way solids =
    let leg = leg_of body vel way solids in
    let there = box_moved_by body leg.slid.shift in
    let k = (trace_of body way solids).steps in
    let P : Bounds → Type 0 = λ place. is_blocked place solids ≡ false in
    All-append P (steps_to k body way) _
    (All-steps_to P k body way (λ i from within. (IsTrace-trace_of body way solids).free.free i from within))
    (All-then P (λ r. bodies_along traces there leg.slid.vel r solids) leg.rest (anywhere leg.rest) (λ r _. places_free_along traces there leg.slid.vel r solids))

pub bodies_are_free : BodiesAreFree
unfolding bodies_on_slide
bodies_are_free body vel ms solids = places_free_along 4 body vel (displacement vel ms) solids

-- ---- in range
places_in_range_along : (traces : ℕ) (body : Bounds) (vel way : Vec3) (solids : List Bounds) → IsInRange body
    → IsInRange (box_moved_by body way) → All IsInRange (bodies_along traces body vel way solids)
unfolding bodies_along
places_in_range_along zero body vel way solids first last = All-none _
places_in_range_along (suc traces) body vel way solids first last =
    let leg = leg_of body vel way solids in
    let is = IsLeg-leg_of body vel way solids in
    let there = box_moved_by body leg.slid.shift in
    let k = (trace_of body way solids).steps in
    let most : k ≤ step_count way = (IsTrace-trace_of body way solids).within in
    let here : IsInRange there = IsInRange-part body way leg.slid.shift is.goes first last in
    All-append IsInRange (steps_to k body way) _
    (All-steps_to IsInRange k body way (λ i from within. IsInRange-body_at body way i first last (omega arith)))
    (All-then IsInRange (λ r. bodies_along traces there leg.slid.vel r solids) leg.rest is.leaves (λ r part. places_in_range_along traces there leg.slid.vel r solids here (end_of_rest body way leg.slid.shift r is.goes part first last)))
  where
    end_of_rest : (b : Bounds) (w shift r : Vec3) → IsPartOfWay w shift → IsPartOfWay (minus w shift) r → IsInRange b
        → IsInRange (box_moved_by b w) → IsInRange (box_moved_by (box_moved_by b shift) r)
    end_of_rest b w shift r p q from to =
        subst IsInRange (sym (moved-moved b shift r)) (IsInRange-part b w (plus shift r) (IsPartOfWay-plus w shift r p q) from to)

pub bodies_are_in_range : BodiesAreInRange
unfolding bodies_on_slide
bodies_are_in_range body vel ms solids = places_in_range_along 4 body vel (displacement vel ms) solids

-- ---- the last place
last_place-append : (start : Bounds) (xs ys : List Bounds)
    → last_body start (xs ++ ys) ≡ last_body (last_body start xs) ys
last_place-append start [] ys = refl
last_place-append start (x ∷ xs) ys = last_place-append x xs ys

last_place-steps_to : (k : ℕ) (body : Bounds) (way : Vec3)
    → last_body body (steps_to k body way) ≡ box_moved_by body (shift_at way k)
last_place-steps_to zero body way = sym (ap (box_moved_by body) (shift_at-zero way) ∙ moved-zero_vector body)
last_place-steps_to (suc k) body way = last_place-append body (steps_to k body way) (body_at body way (suc k) ∷ [])

last_then : (there : Bounds) (vel : Vec3) (f : Vec3 → Slid) (g : Vec3 → List Bounds) (rest : Option Vec3)
    → ((r : Vec3) → box_moved_by there (f r).shift ≡ last_body there (g r))
    → box_moved_by there (option_map_or f rest (still vel)).shift ≡ last_body there (option_map_or g rest [])
last_then there vel f g None each = moved-zero_vector there
last_then there vel f g (Some r) each = each r

last_place_along : (traces : ℕ) (body : Bounds) (vel way : Vec3) (solids : List Bounds)
    → box_moved_by body (slide_along traces body vel way solids).shift ≡ last_body body (bodies_along traces body vel way solids)
unfolding slide_along bodies_along
last_place_along zero body vel way solids = moved-zero_vector body
last_place_along (suc traces) body vel way solids =
    let leg = leg_of body vel way solids in
    let there = box_moved_by body leg.slid.shift in
    let k = (trace_of body way solids).steps in
    let next : Vec3 → Slid = λ r. slide_along traces there leg.slid.vel r solids in
    let places : Vec3 → List Bounds = λ r. bodies_along traces there leg.slid.vel r solids in
    let at : there ≡ last_body body (steps_to k body way) = ap (box_moved_by body) (shift-leg_of body vel way solids) ∙ sym (last_place-steps_to k body way) in
    sym (moved-moved body leg.slid.shift (option_map_or next leg.rest (still leg.slid.vel)).shift)
    ∙ last_then there leg.slid.vel next places leg.rest (λ r. last_place_along traces there leg.slid.vel r solids)
    ∙ ap (λ (start : Bounds). last_body start (option_map_or places leg.rest [])) at
    ∙ sym (last_place-append body (steps_to k body way) (option_map_or places leg.rest []))

pub ends_at_last_body : EndsAtLastBody
unfolding slide_of bodies_on_slide
ends_at_last_body body vel ms solids = last_place_along 4 body vel (displacement vel ms) solids
