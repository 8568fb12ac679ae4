-- A free slide, and the side of a slide.
use Rattle.std.proofs.Common.{◌≡◌, ℕ, zero, suc, true, false, ◌||◌, inl, inr, List, [], Option, Some, None, refl, sym, ap, ◌∙◌, subst}
use Rattle.std.specs.Option.{option_map_or}
use Rattle.std.specs.List.{list_any}
use Rattle.arena_geo.specs.declared.vec3.Vec3.{Vec3}
use Rattle.arena_geo.specs.Bounds.{Bounds}
use Rattle.arena_geo.specs.Boxes.{box_moved_by}
use Rattle.box_trace.specs.declared.axis.Axis.{Axis}
use Rattle.box_trace.specs.declared.axis.Axis.TheVariants.{X, Y, Z}
use Rattle.box_trace.specs.declared.hit.Hit.{Hit}
use Rattle.box_trace.specs.Axes.{number_of}
use Rattle.box_trace.specs.Traces.{trace_of}
use Rattle.box_trace.proofs.Stops.{free_way_is_gone}
use Rattle.slide_move.specs.declared.slid.Slid.{Slid}
use Rattle.slide_move.specs.declared.leg.Leg.{Leg}
use Rattle.slide_move.specs.Displacements.{displacement}
use Rattle.slide_move.specs.Slides.{still, is_sideways, leg_of, slide_along, slide_of}
use Rattle.slide_move.specs.Hits.{traces_along, traces_of, is_number_of, hits_sideways}
use Rattle.slide_move.specs.Laws.{GoesFreely, FreeSlideGoesAll, SideIsSidewaysHit}
use Rattle.slide_move.proofs.Underway.{along-last}
use Rattle.slide_move.proofs.Findings.{Finding, finding, leg-whole, leg-stuck, leg-runs}

-- the slide of a whole trace is that trace
pub along-whole : (traces : ℕ) (body : Bounds) (vel way : Vec3) (solids : List Bounds)
    → (trace_of body way solids).whole ≡ true
    → slide_along (suc traces) body vel way solids ≡ record { shift = way; vel = vel; side = false }
along-whole traces body vel way solids whole =
    let is = leg-whole body vel way solids whole in
    along-last traces body vel way solids (ap (λ (t : Leg). t.rest) is) ∙ ap (λ (t : Leg). t.slid) is

pub free_slide_goes_all : FreeSlideGoesAll
unfolding slide_of
free_slide_goes_all body vel ms solids free =
    let way = displacement vel ms in
    let is = along-whole 3 body vel way solids (free_way_is_gone body way solids free).whole in
    let P : Slid → Type 0 = λ slid. GoesFreely way vel slid in
    subst P (sym is) (record { shift = refl; vel_is = refl; side = refl })

-- ---- the side
sideways_number : (axis : Axis)
    → is_sideways axis ≡ (is_number_of X (Some (number_of axis)) || is_number_of Y (Some (number_of axis)))
sideways_number X = refl
sideways_number Y = refl
sideways_number Z = refl

side-leg_of : (body : Bounds) (vel way : Vec3) (solids : List Bounds) → Finding way (trace_of body way solids)
    → (leg_of body vel way solids).slid.side ≡ hits_sideways (trace_of body way solids)
side-leg_of body vel way solids (inl is) =
    ap (λ (t : Leg). t.slid.side) (leg-whole body vel way solids is.whole)
    ∙ sym (ap (λ (axis : Option ℕ). is_number_of X axis || is_number_of Y axis) is.none)
side-leg_of body vel way solids (inr (inl stuck)) =
    ap (λ (t : Leg). t.slid.side) (leg-stuck body vel way solids stuck)
    ∙ sym (ap (λ (axis : Option ℕ). is_number_of X axis || is_number_of Y axis) stuck.none)
side-leg_of body vel way solids (inr (inr into)) =
    ap (λ (t : Leg). t.slid.side) (leg-runs body vel way solids into.axis into.runs)
    ∙ sideways_number into.axis
    ∙ sym (ap (λ (axis : Option ℕ). is_number_of X axis || is_number_of Y axis) into.runs.on)

side_then : (vel : Vec3) (f : Vec3 → Slid) (g : Vec3 → List Hit) (rest : Option Vec3)
    → ((r : Vec3) → (f r).side ≡ list_any hits_sideways (g r))
    → (option_map_or f rest (still vel)).side ≡ list_any hits_sideways (option_map_or g rest [])
side_then vel f g None each = refl
side_then vel f g (Some r) each = each r

side_along : (traces : ℕ) (body : Bounds) (vel way : Vec3) (solids : List Bounds)
    → (slide_along traces body vel way solids).side ≡ list_any hits_sideways (traces_along traces body vel way solids)
unfolding slide_along traces_along
side_along zero body vel way solids = refl
side_along (suc traces) body vel way solids =
    let leg = leg_of body vel way solids in
    let there = box_moved_by body leg.slid.shift in
    let first = side-leg_of body vel way solids (finding body way solids) in
    let later = side_then leg.slid.vel (λ r. slide_along traces there leg.slid.vel r solids)
    (λ r. traces_along traces there leg.slid.vel r solids) leg.rest
    (λ r. side_along traces there leg.slid.vel r solids) in
    λ i. first i || later i

pub side_is_sideways_hit : SideIsSidewaysHit
unfolding slide_of traces_of
side_is_sideways_hit body vel ms solids = side_along 4 body vel (displacement vel ms) solids
