-- A slide on its way: the legs so far and the slide of what is left are the slide of all.
use Rattle.std.proofs.Common.{◌≡◌, ℕ, suc, arith, List, Option, Some, None, IfSome, sym, ap, ◌∙◌, subst}
use Rattle.std.specs.Option.{option_map_or}
use Rattle.std.proofs.Math.Bool.{or-false, or_assoc}
use Rattle.arena_geo.specs.declared.vec3.Vec3.{Vec3}
use Rattle.arena_geo.specs.Vectors.{IsNear, Fits, plus, minus}
use Rattle.arena_geo.specs.Bounds.{Bounds, IsInRange}
use Rattle.arena_geo.specs.Boxes.{box_moved_by}
use Rattle.arena_geo.proofs.Vectors.{plus-zero_vector}
use Rattle.slide_move.specs.declared.slid.Slid.{Slid}
use Rattle.slide_move.specs.declared.leg.Leg.{Leg}
use Rattle.slide_move.specs.Slides.{still, slide_then, leg_of, slide_along}
use Rattle.slide_move.specs.Changes.{IsPartOfWay}
use Rattle.slide_move.proofs.Ways.{zero_vector-plus, plus-assoc, minus-plus, minus-zero_vector, moved-zero_vector, moved-moved, IsPartOfWay-zero_vector, IsPartOfWay-refl, IsPartOfWay-trans, IsPartOfWay-minus, IsPartOfWay-left, IsPartOfWay-plus, IsNear-part, IsNear-more, Fits-near, IsInRange-part}
use Rattle.slide_move.proofs.Legs.{IsLeg, IsLeg-leg_of}

-- the legs so far and the slide of what is left are the slide of all; what is left is a part of what isn't gone yet
pub record IsUnderway (body : Bounds) (vel way : Vec3) (solids : List Bounds) (traces : ℕ) (slid : Slid) (left : Vec3) : Type 0 where
  pub same : slide_then slid (slide_along traces (box_moved_by body slid.shift) slid.vel left solids) ≡ slide_along 4 body vel way solids
  pub gone : IsPartOfWay way slid.shift
  pub rest : IsPartOfWay (minus way slid.shift) left

joined_still : (slid : Slid) → slide_then slid (still slid.vel) ≡ slid
joined_still slid =
    λ i. record { shift = plus-zero_vector slid.shift i; vel = slid.vel; side = or-false slid.side i }

still_joined : (vel : Vec3) (slid : Slid) → slide_then (still vel) slid ≡ slid
still_joined vel slid = λ i. record { shift = zero_vector-plus slid.shift i; vel = slid.vel; side = slid.side }

joined-assoc : (a b c : Slid) → slide_then (slide_then a b) c ≡ slide_then a (slide_then b c)
joined-assoc a b c = λ i. record {
  shift = plus-assoc a.shift b.shift c.shift i;
  vel = c.vel;
  side = or_assoc a.side b.side c.side i;
}

pub begins : (body : Bounds) (vel way : Vec3) (solids : List Bounds) → IsUnderway body vel way solids 4 (still vel) way
begins body vel way solids = record {
  same = still_joined vel _ ∙ ap (λ (b : Bounds). slide_along 4 b vel way solids) (moved-zero_vector body);
  gone = IsPartOfWay-zero_vector way;
  rest = let P : Vec3 → Type 0 = λ v. IsPartOfWay v way in subst P (sym (minus-zero_vector way)) (IsPartOfWay-refl way);
}

-- where the next leg takes a body from the end of the legs so far
pub then_there : (body here : Bounds) (slid leg next : Slid) → here ≡ box_moved_by body slid.shift → next ≡ slide_then slid leg
    → box_moved_by here leg.shift ≡ box_moved_by body next.shift
then_there body here slid leg next at next_is =
    ap (λ (b : Bounds). box_moved_by b leg.shift) at
    ∙ moved-moved body slid.shift leg.shift
    ∙ ap (λ (s : Slid). box_moved_by body s.shift) (sym next_is)

-- a leg that ends the slide, and one that doesn't
pub along-last : (traces : ℕ) (body : Bounds) (vel way : Vec3) (solids : List Bounds)
    → (leg_of body vel way solids).rest ≡ None
    → slide_along (suc traces) body vel way solids ≡ (leg_of body vel way solids).slid
unfolding slide_along
along-last traces body vel way solids none =
    let leg = leg_of body vel way solids in
    let there = box_moved_by body leg.slid.shift in
    ap (λ (rest : Option Vec3). slide_then leg.slid (option_map_or (λ r. slide_along traces there leg.slid.vel r solids) rest (still leg.slid.vel))) none
    ∙ joined_still leg.slid

pub along-next : (traces : ℕ) (body : Bounds) (vel way : Vec3) (solids : List Bounds) (rest : Vec3)
    → (leg_of body vel way solids).rest ≡ Some rest
    → slide_along (suc traces) body vel way solids ≡ slide_then (leg_of body vel way solids).slid (slide_along traces (box_moved_by body (leg_of body vel way solids).slid.shift) (leg_of body vel way solids).slid.vel rest solids)
unfolding slide_along
along-next traces body vel way solids rest some =
    let leg = leg_of body vel way solids in
    let there = box_moved_by body leg.slid.shift in
    ap (λ (rest : Option Vec3). slide_then leg.slid (option_map_or (λ r. slide_along traces there leg.slid.vel r solids) rest (still leg.slid.vel))) some

pub ends : (body : Bounds) (vel way : Vec3) (solids : List Bounds) (traces : ℕ) (slid : Slid) (left : Vec3) → traces ≡ 0
    → IsUnderway body vel way solids traces slid left → slid ≡ slide_along 4 body vel way solids
unfolding slide_along
ends body vel way solids traces slid left none underway =
    sym (joined_still slid)
    ∙ ap (λ (n : ℕ). slide_then slid (slide_along n (box_moved_by body slid.shift) slid.vel left solids)) (sym none)
    ∙ underway.same

module _ (body : Bounds) (vel way : Vec3) (solids : List Bounds) (traces : ℕ) (slid : Slid) (left : Vec3) (underway : IsUnderway body vel way solids traces slid left) where
  -- the leg that comes next
  next_leg : Leg
  next_leg = leg_of (box_moved_by body slid.shift) slid.vel left solids

  is_leg : IsLeg (slid.vel) left next_leg
  unfolding next_leg
  is_leg = IsLeg-leg_of (box_moved_by body slid.shift) slid.vel left solids

  goes_through : IsPartOfWay way (plus slid.shift next_leg.slid.shift)
  goes_through =
      IsPartOfWay-plus way slid.shift next_leg.slid.shift underway.gone (IsPartOfWay-trans (minus way slid.shift) left next_leg.slid.shift underway.rest is_leg.goes)

  next_remains : (rest : Vec3) → next_leg.rest ≡ Some rest → IsPartOfWay (minus left next_leg.slid.shift) rest
  next_remains rest some =
      let P : Option Vec3 → Type 0 = λ o. IfSome o (λ r. IsPartOfWay (minus left next_leg.slid.shift) r) in
      subst P some is_leg.leaves

  next_underway : (fewer : ℕ) (rest : Vec3) → traces ≡ suc fewer → next_leg.rest ≡ Some rest
      → IsUnderway body vel way solids fewer (slide_then slid next_leg.slid) rest
  unfolding next_leg
  next_underway fewer rest count some =
      let shift = next_leg.slid.shift in
      record {
        same =
            joined-assoc slid next_leg.slid _
            ∙ ap (λ (b : Bounds). slide_then slid (slide_then next_leg.slid (slide_along fewer b next_leg.slid.vel rest solids))) (sym (moved-moved body slid.shift shift))
            ∙ ap (slide_then slid) (sym (along-next fewer (box_moved_by body slid.shift) slid.vel left solids rest some))
            ∙ ap (λ (n : ℕ). slide_then slid (slide_along n (box_moved_by body slid.shift) slid.vel left solids)) (sym count)
            ∙ underway.same;
        gone = goes_through;
        rest =
            let P : Vec3 → Type 0 = λ v. IsPartOfWay v rest in
            subst P (minus-plus way slid.shift shift) (IsPartOfWay-trans _ (minus left shift) rest (IsPartOfWay-minus (minus way slid.shift) left shift underway.rest is_leg.goes) (next_remains rest some));
      }

  next_ends : (fewer : ℕ) → traces ≡ suc fewer → next_leg.rest ≡ None
      → slide_then slid next_leg.slid ≡ slide_along 4 body vel way solids
  unfolding next_leg
  next_ends fewer count none =
      ap (slide_then slid) (sym (along-last fewer (box_moved_by body slid.shift) slid.vel left solids none))
      ∙ ap (λ (n : ℕ). slide_then slid (slide_along n (box_moved_by body slid.shift) slid.vel left solids)) (sym count)
      ∙ underway.same

  -- what is left is near, and in range
  pub near_left : IsNear 30000 way → IsNear 65536 left
  near_left near =
      IsNear-more left 30000 65536 (omega arith) (IsNear-part way left 30000 (IsPartOfWay-trans way (minus way slid.shift) left (IsPartOfWay-left way slid.shift underway.gone) underway.rest) near)

  pub left_in_range : (here : Bounds) → here ≡ box_moved_by body slid.shift → IsInRange body → IsInRange (box_moved_by body way)
      → IsInRange (box_moved_by here left)
  left_in_range here at first last =
      subst IsInRange (sym (ap (λ (b : Bounds). box_moved_by b left) at ∙ moved-moved body slid.shift left)) (IsInRange-part body way (plus slid.shift left) (IsPartOfWay-plus way slid.shift left underway.gone underway.rest) first last)

  module _ (here : Bounds) (leg : Leg) (at : here ≡ box_moved_by body slid.shift) (is : leg ≡ leg_of here slid.vel left solids) where
    is_next : next_leg ≡ leg
    unfolding next_leg
    is_next = sym (is ∙ ap (λ (b : Bounds). leg_of b slid.vel left solids) at)

    pub leg_fits : IsNear 30000 way → Fits (plus slid.shift leg.slid.shift)
    leg_fits near =
        let P : Leg → Type 0 = λ t. Fits (plus slid.shift t.slid.shift) in
        subst P is_next (Fits-near _ (IsNear-more _ 30000 65536 (omega arith) (IsNear-part way _ 30000 goes_through near)))

    pub leg_in_range : (next : Slid) → next ≡ slide_then slid leg.slid → IsInRange body → IsInRange (box_moved_by body way)
        → IsInRange (box_moved_by body next.shift)
    leg_in_range next next_is first last =
        let P : Leg → Type 0 = λ t. IsInRange (box_moved_by body (plus slid.shift t.slid.shift)) in
        let Q : Slid → Type 0 = λ s. IsInRange (box_moved_by body s.shift) in
        subst Q (sym next_is) (subst P is_next (IsInRange-part body way _ goes_through first last))

    pub goes_on : (fewer : ℕ) (rest : Vec3) (next : Slid) → traces ≡ suc fewer → leg.rest ≡ Some rest
        → next ≡ slide_then slid leg.slid → IsUnderway body vel way solids fewer next rest
    goes_on fewer rest next count some next_is =
        let P : Leg → Type 0 = λ t. t.rest ≡ Some rest → IsUnderway body vel way solids fewer (slide_then slid t.slid) rest in
        let Q : Slid → Type 0 = λ s. IsUnderway body vel way solids fewer s rest in
        subst Q (sym next_is) (subst P is_next (next_underway fewer rest count) some)

    pub ends_early : (fewer : ℕ) (next : Slid) → traces ≡ suc fewer → leg.rest ≡ None → next ≡ slide_then slid leg.slid
        → next ≡ slide_along 4 body vel way solids
    ends_early fewer next count none next_is =
        let P : Leg → Type 0 = λ t. t.rest ≡ None → slide_then slid t.slid ≡ slide_along 4 body vel way solids in
        next_is ∙ subst P is_next (next_ends fewer count) none
