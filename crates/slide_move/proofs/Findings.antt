-- What a trace of a slide finds, and the leg that it makes.
use Rattle.std.proofs.Common.{◌≡◌, ◌≢◌, ℕ, suc, Bool, true, false, ◌⊎◌, inl, inr, List, [], ◌∷◌, Option, Some, None, if◌then◌else◌, pos, refl, sym, ap, ◌∙◌}
use Rattle.std.specs.Option.{option_map_or}
use Rattle.std.proofs.lemmas.Bool.{eqb-true}
use Rattle.arena_geo.specs.declared.vec3.Vec3.{Vec3}
use Rattle.arena_geo.specs.Vectors.{zero_vector, minus}
use Rattle.arena_geo.specs.Bounds.{Bounds}
use Rattle.arena_geo.specs.Boxes.{box_moved_by}
use Rattle.box_trace.specs.declared.axis.Axis.{Axis}
use Rattle.box_trace.specs.declared.axis.Axis.TheVariants.{X, Y, Z}
use Rattle.box_trace.specs.declared.hit.Hit.{Hit}
use Rattle.box_trace.specs.Axes.{number_of, axis_with, part}
use Rattle.box_trace.specs.Steps.{step_count, shift_at}
use Rattle.box_trace.specs.Traces.{axis_after, trace_of}
use Rattle.box_trace.proofs.Ranges.{shift_at-last}
use Rattle.box_trace.proofs.HitAxes.{axis_is_moved_along}
use Rattle.box_trace.proofs.Traces.{IsTrace-trace_of}
use Rattle.slide_move.specs.declared.leg.Leg.{Leg}
use Rattle.slide_move.specs.Slides.{last_leg, leg_on, stopped_leg, leg_of}
use Rattle.slide_move.specs.Hits.{traces_along}

-- the trace goes the whole way
pub record IsWhole (hit : Hit) : Type 0 where
  pub whole : hit.whole ≡ true
  pub none : hit.axis ≡ None

-- the body overlaps the solid that stops it already
pub record IsStuck (hit : Hit) : Type 0 where
  pub partly : hit.whole ≡ false
  pub none : hit.axis ≡ None

-- the trace runs into a solid on this axis, along which the body moves
pub record RunsInto (axis : Axis) (way : Vec3) (hit : Hit) : Type 0 where
  pub partly : hit.whole ≡ false
  pub on : hit.axis ≡ Some (number_of axis)
  pub moves : part axis way ≢ pos 0

-- it runs into a solid on some axis
pub record RunsIntoSolid (way : Vec3) (hit : Hit) : Type 0 where
  pub axis : Axis
  pub runs : RunsInto axis way hit

-- one of the three
abbrev pub Finding : Vec3 → Hit → Type 0
Finding way hit = IsWhole hit ⊎ (IsStuck hit ⊎ RunsIntoSolid way hit)

by_axis : (body : Bounds) (way : Vec3) (solids : List Bounds) (axis : Option ℕ) → (trace_of body way solids).axis ≡ axis
    → (trace_of body way solids).whole ≡ false → Finding way (trace_of body way solids)
by_axis body way solids None on partly = inr (inl (record { partly = partly; none = on }))
by_axis body way solids (Some number) on partly =
    let box_moved_by = axis_is_moved_along body way solids number on in
    inr (inr (record { axis = box_moved_by.axis; runs = record { partly = partly; on = on ∙ ap Some box_moved_by.named; moves = box_moved_by.moves } }))

by_whole : (body : Bounds) (way : Vec3) (solids : List Bounds) (whole : Bool) → (trace_of body way solids).whole ≡ whole
    → Finding way (trace_of body way solids)
by_whole body way solids true is =
    let hit = trace_of body way solids in
    let axis : Bool → Option ℕ = λ whole. if whole then None else axis_after body way solids hit.steps in
    inl (record { whole = is; none = (IsTrace-trace_of body way solids).axis ∙ ap axis is })
by_whole body way solids false is = by_axis body way solids (trace_of body way solids).axis refl is

pub finding : (body : Bounds) (way : Vec3) (solids : List Bounds) → Finding way (trace_of body way solids)
finding body way solids = by_whole body way solids (trace_of body way solids).whole refl

-- ---- the leg
-- at the end of a whole trace it has come the whole way
shift-whole : (body : Bounds) (way : Vec3) (solids : List Bounds) → (trace_of body way solids).whole ≡ true
    → shift_at way (trace_of body way solids).steps ≡ way
shift-whole body way solids whole =
    let hit = trace_of body way solids in
    let all : hit.steps ≡ step_count way =
    eqb-true hit.steps (step_count way) (sym (IsTrace-trace_of body way solids).whole ∙ whole)
    in
    ap (shift_at way) all ∙ shift_at-last way

pub leg-whole : (body : Bounds) (vel way : Vec3) (solids : List Bounds) → (trace_of body way solids).whole ≡ true
    → leg_of body vel way solids ≡ last_leg way vel
unfolding leg_of
leg-whole body vel way solids whole =
    let hit = trace_of body way solids in
    let shift = shift_at way hit.steps in
    let leg : Bool → Leg = λ w. if w then last_leg shift vel else stopped_leg shift vel (minus way shift) hit.axis in
    ap leg whole ∙ ap (λ (s : Vec3). last_leg s vel) (shift-whole body way solids whole)

-- the leg of a trace that isn't whole
leg-partly : (body : Bounds) (vel way : Vec3) (solids : List Bounds) (axis : Option ℕ)
    → (trace_of body way solids).whole ≡ false → (trace_of body way solids).axis ≡ axis
    → let shift = shift_at way (trace_of body way solids).steps in
    leg_of body vel way solids ≡ stopped_leg shift vel (minus way shift) axis
unfolding leg_of
leg-partly body vel way solids axis partly on =
    let hit = trace_of body way solids in
    let shift = shift_at way hit.steps in
    let leg : Bool → Leg = λ w. if w then last_leg shift vel else stopped_leg shift vel (minus way shift) hit.axis in
    ap leg partly ∙ ap (stopped_leg shift vel (minus way shift)) on

pub leg-stuck : (body : Bounds) (vel way : Vec3) (solids : List Bounds) → IsStuck (trace_of body way solids)
    → leg_of body vel way solids ≡ last_leg (shift_at way (trace_of body way solids).steps) zero_vector
leg-stuck body vel way solids stuck = leg-partly body vel way solids None stuck.partly stuck.none

axis_with-number_of : (axis : Axis) → axis_with (number_of axis) ≡ Some axis
axis_with-number_of X = refl
axis_with-number_of Y = refl
axis_with-number_of Z = refl

pub leg-runs : (body : Bounds) (vel way : Vec3) (solids : List Bounds) (axis : Axis)
    → RunsInto axis way (trace_of body way solids)
    → let shift = shift_at way (trace_of body way solids).steps in
    leg_of body vel way solids ≡ leg_on shift vel (minus way shift) axis
leg-runs body vel way solids axis runs =
    let shift = shift_at way (trace_of body way solids).steps in
    let leg : Option Axis → Leg =
    λ a. option_map_or (leg_on shift vel (minus way shift)) a (last_leg shift zero_vector)
    in
    leg-partly body vel way solids (Some (number_of axis)) runs.partly runs.on ∙ ap leg (axis_with-number_of axis)

-- ---- the traces
pub traces-last : (traces : ℕ) (body : Bounds) (vel way : Vec3) (solids : List Bounds)
    → (leg_of body vel way solids).rest ≡ None
    → traces_along (suc traces) body vel way solids ≡ trace_of body way solids ∷ []
unfolding traces_along
traces-last traces body vel way solids none =
    let leg = leg_of body vel way solids in
    let there = box_moved_by body leg.slid.shift in
    ap (λ (rest : Option Vec3). trace_of body way solids
    ∷ option_map_or (λ r. traces_along traces there leg.slid.vel r solids) rest []) none

pub traces-next : (traces : ℕ) (body : Bounds) (vel way : Vec3) (solids : List Bounds) (rest : Vec3)
    → (leg_of body vel way solids).rest ≡ Some rest
    → traces_along (suc traces) body vel way solids
    ≡ trace_of body way solids ∷ traces_along traces (box_moved_by body (leg_of body vel way solids).slid.shift) (leg_of body vel way solids).slid.vel rest solids
unfolding traces_along
traces-next traces body vel way solids rest some =
    let leg = leg_of body vel way solids in
    let there = box_moved_by body leg.slid.shift in
    ap (λ (rest : Option Vec3). trace_of body way solids
    ∷ option_map_or (λ r. traces_along traces there leg.slid.vel r solids) rest []) some
