-- A body inside the arena slides inside it.
use Rattle.std.proofs.Common.{◌≡◌, ℕ, zero, suc, true, List, [], ◌∷◌, sym, subst, arith}
use Rattle.std.specs.Prelude.{All}
use Rattle.std.proofs.lemmas.List.Elements.{All-append, All-head, All-tail}
use Rattle.arena_geo.specs.declared.vec3.Vec3.{Vec3}
use Rattle.arena_geo.specs.Bounds.{Bounds, IsOrdered}
use Rattle.arena_geo.specs.Boxes.{contains, box_moved_by}
use Rattle.arena_geo.proofs.Ranges.{IsOrdered-moved}
use Rattle.box_trace.specs.Traces.{trace_of}
use Rattle.box_trace.specs.Walls.{HaveWalls}
use Rattle.box_trace.proofs.Insides.{trace_stays_inside}
use Rattle.slide_move.specs.Displacements.{displacement}
use Rattle.slide_move.specs.Slides.{leg_of}
use Rattle.slide_move.specs.SlideBodies.{steps_to, bodies_along, bodies_on_slide, last_body}
use Rattle.slide_move.specs.Laws.{SlideStaysInside}
use Rattle.slide_move.proofs.Legs.{shift-leg_of}
use Rattle.slide_move.proofs.SlideBodies.{All-none, All-steps_to, All-then, anywhere, ends_at_last_body}

-- a leg ends inside
leg_ends_inside : (arena body : Bounds) (vel way : Vec3) (solids : List Bounds) → IsOrdered body
    → HaveWalls arena solids → contains arena body ≡ true
    → contains arena (box_moved_by body (leg_of body vel way solids).slid.shift) ≡ true
leg_ends_inside arena body vel way solids ordered have inside =
    let k = (trace_of body way solids).steps in
    let P : Vec3 → Type 0 = λ shift. contains arena (box_moved_by body shift) ≡ true in
    subst P (sym (shift-leg_of body vel way solids)) (trace_stays_inside arena body way solids ordered have inside k (omega arith))

places_inside_along : (traces : ℕ) (arena body : Bounds) (vel way : Vec3) (solids : List Bounds) → IsOrdered body
    → HaveWalls arena solids → contains arena body ≡ true
    → All (λ place. contains arena place ≡ true) (bodies_along traces body vel way solids)
unfolding bodies_along
places_inside_along zero arena body vel way solids ordered have inside = All-none _
places_inside_along (suc traces) arena body vel way solids ordered have inside =
    let leg = leg_of body vel way solids in
    let there = box_moved_by body leg.slid.shift in
    let k = (trace_of body way solids).steps in
    let P : Bounds → Type 0 = λ place. contains arena place ≡ true in
    All-append P (steps_to k body way) _
    (All-steps_to P k body way (λ i from within. trace_stays_inside arena body way solids ordered have inside i within))
    (All-then P (λ r. bodies_along traces there leg.slid.vel r solids) leg.rest (anywhere leg.rest) (λ r _. places_inside_along traces arena there leg.slid.vel r solids (IsOrdered-moved body leg.slid.shift ordered) have (leg_ends_inside arena body vel way solids ordered have inside)))

-- the last place is inside where the start and all places are
last_place_inside : (arena start : Bounds) (places : List Bounds) → contains arena start ≡ true
    → All (λ place. contains arena place ≡ true) places → contains arena (last_body start places) ≡ true
last_place_inside arena start [] first each = first
last_place_inside arena start (place ∷ places) first each =
    let P : Bounds → Type 0 = λ b. contains arena b ≡ true in
    last_place_inside arena place places (All-head P place places each) (All-tail P place places each)

pub slide_stays_inside : SlideStaysInside
unfolding bodies_on_slide
slide_stays_inside arena body vel ms solids ordered have inside =
    let places = places_inside_along 4 arena body vel (displacement vel ms) solids ordered have inside in
    let P : Bounds → Type 0 = λ b. contains arena b ≡ true in
    record {
      at_places = places;
      at_end = subst P (sym (ends_at_last_body body vel ms solids)) (last_place_inside arena body (bodies_on_slide body vel ms solids) inside places);
    }
