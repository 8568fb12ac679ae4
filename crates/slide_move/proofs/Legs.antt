-- What a leg of a slide does.
use Rattle.std.proofs.Common.{◌≡◌, ℕ, zero, suc, ◌≤◌, Bool, true, false, cond, inl, inr, List, Option, Some, None, IfSome, option_and_then, refl, sym, ap, ◌∙◌, subst, arith, rules}
use Rattle.std.specs.Option.{option_map_or}
use Rattle.arena_geo.specs.declared.vec3.Vec3.{Vec3}
use Rattle.arena_geo.specs.Vectors.{zero_vector, plus, minus}
use Rattle.arena_geo.specs.Bounds.{Bounds}
use Rattle.arena_geo.specs.Boxes.{box_moved_by, is_blocked}
use Rattle.arena_geo.proofs.Vectors.{plus-zero_vector}
use Rattle.box_trace.specs.declared.axis.Axis.{Axis}
use Rattle.box_trace.specs.declared.hit.Hit.{Hit}
use Rattle.box_trace.specs.Axes.{axis_with}
use Rattle.box_trace.specs.Steps.{step_count, shift_at}
use Rattle.box_trace.specs.Traces.{IsFree, trace_of}
use Rattle.box_trace.proofs.Traces.{IsTrace-trace_of}
use Rattle.slide_move.specs.declared.leg.Leg.{Leg}
use Rattle.slide_move.specs.Slides.{last_leg, leg_on, leg_after, leg_of}
use Rattle.slide_move.specs.Changes.{IsPartOfWay, KeepsOrStops, EndsFree}
use Rattle.slide_move.proofs.Ways.{moved-moved, IsPartOfWay-shift_at, without-KeepsOrStops, some_way-IsPart, KeepsOrStops-refl, KeepsOrStops-zero_vector, shift_at-zero}

-- the body goes a part of the way, the velocity is kept or stopped, and what is left is a part of what it hasn't gone
pub record IsLeg (vel way : Vec3) (leg : Leg) : Type 0 where
  pub goes : IsPartOfWay way leg.slid.shift
  pub keeps : KeepsOrStops vel leg.slid.vel
  pub leaves : IfSome leg.rest (λ rest. IsPartOfWay (minus way leg.slid.shift) rest)

IsLeg-leg_after : (hit : Hit) (vel way : Vec3) → hit.steps ≤ step_count way → IsLeg vel way (leg_after hit vel way)
IsLeg-leg_after hit vel way within = by_hit hit.whole (option_and_then axis_with hit.axis) where
  by_hit : (whole : Bool) (axis : Option Axis) → let shift = shift_at way hit.steps in IsLeg vel way (cond whole (last_leg shift vel) (option_map_or (leg_on shift vel (minus way shift)) axis (last_leg shift zero_vector)))
  by_hit true axis = record {
    goes = IsPartOfWay-shift_at way hit.steps within;
    keeps = KeepsOrStops-refl vel;
    leaves = search rules;
  }
  by_hit false None = record {
    goes = IsPartOfWay-shift_at way hit.steps within;
    keeps = KeepsOrStops-zero_vector vel;
    leaves = search rules;
  }
  by_hit false (Some axis) = record {
    goes = IsPartOfWay-shift_at way hit.steps within;
    keeps = without-KeepsOrStops axis vel;
    leaves = some_way-IsPart axis (minus way (shift_at way hit.steps));
  }

pub IsLeg-leg_of : (body : Bounds) (vel way : Vec3) (solids : List Bounds)
    → IsLeg vel way (leg_of body vel way solids)
unfolding leg_of
IsLeg-leg_of body vel way solids =
    IsLeg-leg_after (trace_of body way solids) vel way (IsTrace-trace_of body way solids).within

shift-leg_after : (hit : Hit) (vel way : Vec3) → (leg_after hit vel way).slid.shift ≡ shift_at way hit.steps
shift-leg_after hit vel way = by_hit hit.whole (option_and_then axis_with hit.axis) where
  by_hit : (whole : Bool) (axis : Option Axis) → let shift = shift_at way hit.steps in (cond whole (last_leg shift vel) (option_map_or (leg_on shift vel (minus way shift)) axis (last_leg shift zero_vector))).slid.shift ≡ shift
  by_hit true axis = refl
  by_hit false None = refl
  by_hit false (Some axis) = refl

-- a leg goes as far as its trace
pub shift-leg_of : (body : Bounds) (vel way : Vec3) (solids : List Bounds)
    → (leg_of body vel way solids).slid.shift ≡ shift_at way (trace_of body way solids).steps
unfolding leg_of
shift-leg_of body vel way solids = shift-leg_after (trace_of body way solids) vel way

EndsFree-steps : (body : Bounds) (way : Vec3) (solids : List Bounds) (k : ℕ) → IsFree body way solids k
    → EndsFree body (shift_at way k) solids
EndsFree-steps body way solids zero free = inl (shift_at-zero way)
EndsFree-steps body way solids (suc k) free = inr (free.free (suc k) (omega arith) (omega arith))

pub EndsFree-leg_of : (body : Bounds) (vel way : Vec3) (solids : List Bounds)
    → EndsFree body (leg_of body vel way solids).slid.shift solids
EndsFree-leg_of body vel way solids =
    let P : Vec3 → Type 0 = λ shift. EndsFree body shift solids in
    subst P (sym (shift-leg_of body vel way solids)) (EndsFree-steps body way solids (trace_of body way solids).steps (IsTrace-trace_of body way solids).free)

-- one shift that ends free, and then another
pub EndsFree-plus : (body : Bounds) (first next : Vec3) (solids : List Bounds) → EndsFree body first solids
    → EndsFree (box_moved_by body first) next solids → EndsFree body (plus first next) solids
EndsFree-plus body first next solids p (inl stays) =
    let P : Vec3 → Type 0 = λ shift. EndsFree body shift solids in
    subst P (sym (ap (plus first) stays ∙ plus-zero_vector first)) p
EndsFree-plus body first next solids p (inr free) =
    let P : Bounds → Type 0 = λ b. is_blocked b solids ≡ false in
    inr (subst P (moved-moved body first next) free)
