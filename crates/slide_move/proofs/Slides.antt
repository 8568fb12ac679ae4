-- What a slide changes, by the number of traces left.
use Rattle.std.proofs.Common.{◌≡◌, ℕ, zero, suc, List, Option, Some, None, IfSome, inl, refl, sym, ap, ◌∙◌, subst}
use Rattle.std.specs.Option.{option_map_or}
use Rattle.arena_geo.specs.declared.vec3.Vec3.{Vec3}
use Rattle.arena_geo.specs.Vectors.{minus}
use Rattle.arena_geo.specs.Bounds.{Bounds}
use Rattle.arena_geo.specs.Boxes.{box_moved_by}
use Rattle.slide_move.specs.declared.slid.Slid.{Slid}
use Rattle.slide_move.specs.Displacements.{displacement}
use Rattle.slide_move.specs.Slides.{still, leg_of, slide_along, slide_of}
use Rattle.slide_move.specs.Changes.{IsPartOfWay, KeepsOrStops, EndsFree}
use Rattle.slide_move.specs.Laws.{ShiftIsPart, VelocityIsKeptOrStopped}
use Rattle.slide_move.proofs.Ways.{IsPartOfWay-zero_vector, IsPartOfWay-trans, IsPartOfWay-plus, KeepsOrStops-refl, KeepsOrStops-trans}
use Rattle.slide_move.proofs.Legs.{IsLeg-leg_of, EndsFree-leg_of, EndsFree-plus}

part_then : (way vel : Vec3) (f : Vec3 → Slid) (rest : Option Vec3) → IfSome rest (λ r. IsPartOfWay way r)
    → ((r : Vec3) → IsPartOfWay r (f r).shift) → IsPartOfWay way (option_map_or f rest (still vel)).shift
part_then way vel f None is each = IsPartOfWay-zero_vector way
part_then way vel f (Some r) is each = IsPartOfWay-trans way r (f r).shift is (each r)

pub shift_is_part_along : (traces : ℕ) (body : Bounds) (vel way : Vec3) (solids : List Bounds)
    → IsPartOfWay way (slide_along traces body vel way solids).shift
unfolding slide_along
shift_is_part_along zero body vel way solids = IsPartOfWay-zero_vector way
shift_is_part_along (suc traces) body vel way solids =
    let leg = leg_of body vel way solids in
    let there = box_moved_by body leg.slid.shift in
    let is = IsLeg-leg_of body vel way solids in
    IsPartOfWay-plus way leg.slid.shift _ is.goes
    (part_then (minus way leg.slid.shift) leg.slid.vel (λ r. slide_along traces there leg.slid.vel r solids) leg.rest is.leaves (λ r. shift_is_part_along traces there leg.slid.vel r solids))

vel_then : (vel : Vec3) (f : Vec3 → Slid) (rest : Option Vec3) → ((r : Vec3) → KeepsOrStops vel (f r).vel)
    → KeepsOrStops vel (option_map_or f rest (still vel)).vel
vel_then vel f None each = KeepsOrStops-refl vel
vel_then vel f (Some r) each = each r

pub vel_kept_along : (traces : ℕ) (body : Bounds) (vel way : Vec3) (solids : List Bounds)
    → KeepsOrStops vel (slide_along traces body vel way solids).vel
unfolding slide_along
vel_kept_along zero body vel way solids = KeepsOrStops-refl vel
vel_kept_along (suc traces) body vel way solids =
    let leg = leg_of body vel way solids in
    let there = box_moved_by body leg.slid.shift in
    KeepsOrStops-trans vel leg.slid.vel _ (IsLeg-leg_of body vel way solids).keeps
    (vel_then leg.slid.vel (λ r. slide_along traces there leg.slid.vel r solids) leg.rest (λ r. vel_kept_along traces there leg.slid.vel r solids))

free_then : (body : Bounds) (vel : Vec3) (solids : List Bounds) (f : Vec3 → Slid) (rest : Option Vec3)
    → ((r : Vec3) → EndsFree body (f r).shift solids) → EndsFree body (option_map_or f rest (still vel)).shift solids
free_then body vel solids f None each = inl refl
free_then body vel solids f (Some r) each = each r

pub ends_free_along : (traces : ℕ) (body : Bounds) (vel way : Vec3) (solids : List Bounds)
    → EndsFree body (slide_along traces body vel way solids).shift solids
unfolding slide_along
ends_free_along zero body vel way solids = inl refl
ends_free_along (suc traces) body vel way solids =
    let leg = leg_of body vel way solids in
    let there = box_moved_by body leg.slid.shift in
    EndsFree-plus body leg.slid.shift _ solids (EndsFree-leg_of body vel way solids)
    (free_then there leg.slid.vel solids (λ r. slide_along traces there leg.slid.vel r solids) leg.rest (λ r. ends_free_along traces there leg.slid.vel r solids))

pub shift_is_part : ShiftIsPart
unfolding slide_of
shift_is_part body vel ms solids = shift_is_part_along 4 body vel (displacement vel ms) solids

pub vel_kept : VelocityIsKeptOrStopped
unfolding slide_of
vel_kept body vel ms solids = vel_kept_along 4 body vel (displacement vel ms) solids

-- ---- what the clauses of a slide say
pub record IsAnswer (body : Bounds) (vel : Vec3) (ms : ℕ) (solids : List Bounds) (slid : Slid) : Type 0 where
  pub value : slid ≡ slide_of body vel ms solids
  pub shift : IsPartOfWay (displacement vel ms) slid.shift
  pub kept : KeepsOrStops vel slid.vel
  pub free : EndsFree body slid.shift solids

answer_of : (body : Bounds) (vel : Vec3) (ms : ℕ) (solids : List Bounds)
    → IsAnswer body vel ms solids (slide_of body vel ms solids)
unfolding slide_of
answer_of body vel ms solids = record {
  value = refl;
  shift = shift_is_part_along 4 body vel (displacement vel ms) solids;
  kept = vel_kept_along 4 body vel (displacement vel ms) solids;
  free = ends_free_along 4 body vel (displacement vel ms) solids;
}

-- the answer out of the slide along the whole way
pub answer_along : (body : Bounds) (vel : Vec3) (ms : ℕ) (solids : List Bounds) (way : Vec3) (slid : Slid)
    → way ≡ displacement vel ms → slid ≡ slide_along 4 body vel way solids → IsAnswer body vel ms solids slid
unfolding slide_of
answer_along body vel ms solids way slid way_is slid_is =
    subst (IsAnswer body vel ms solids) (sym (slid_is ∙ ap (λ (w : Vec3). slide_along 4 body vel w solids) way_is)) (answer_of body vel ms solids)
