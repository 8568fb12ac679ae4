-- On which axes a slide goes on, and on which it stops.
use Rattle.std.proofs.Common.{◌≡◌, ◌≢◌, ℕ, zero, suc, ◌+◌, ◌≤◌, ◌==◌, Bool, true, false, not, ◌&&◌, ◌||◌, ◌⊎◌, inl, inr, List, Option, Some, None, is_none, if◌then◌else◌, int_eq, ℤ, pos, negsuc, ◌+ℤ◌, ◌-ℤ◌, refl, sym, ap, ◌∙◌, subst, arith}
use Rattle.std.specs.List.{list_any}
use Rattle.std.proofs.lemmas.Int.{ints}
use Rattle.std.proofs.lemmas.Bool.{both_ways, false≢true, or_parts}
use Rattle.std.proofs.lemmas.Bool.Decides.{Decides-int_eq}
use Rattle.std.proofs.lemmas.Option.{same_Some}
use Rattle.arena_geo.specs.declared.vec3.Vec3.{Vec3}
use Rattle.arena_geo.specs.Vectors.{zero_vector, plus, minus}
use Rattle.arena_geo.specs.Bounds.{Bounds}
use Rattle.arena_geo.specs.Boxes.{box_moved_by}
use Rattle.arena_geo.proofs.Containment.{ThreePass, three_pass}
use Rattle.box_trace.specs.declared.axis.Axis.{Axis}
use Rattle.box_trace.specs.declared.axis.Axis.TheVariants.{X, Y, Z}
use Rattle.box_trace.specs.declared.hit.Hit.{Hit}
use Rattle.box_trace.specs.Axes.{number_of, part}
use Rattle.box_trace.specs.Steps.{shift_at}
use Rattle.box_trace.specs.Traces.{trace_of}
use Rattle.box_trace.proofs.Traces.{IsTrace-trace_of}
use Rattle.slide_move.specs.declared.slid.Slid.{Slid}
use Rattle.slide_move.specs.declared.leg.Leg.{Leg}
use Rattle.slide_move.specs.Displacements.{displacement, without, is_zero_vector, some_way}
use Rattle.slide_move.specs.Slides.{slide_then, leg_of, slide_along, slide_of}
use Rattle.slide_move.specs.Hits.{traces_along, traces_of, is_number_of, stops_on}
use Rattle.slide_move.specs.Changes.{IsPart, IsPartOfWay, KeepsOrStops}
use Rattle.slide_move.specs.Laws.{GoesOnAlong, GoesOnWhereNotStopped, EndsStillWhereStopped}
use Rattle.slide_move.proofs.Ways.{IsPartOfWay-shift_at}
use Rattle.slide_move.proofs.Underway.{along-last, along-next}
use Rattle.slide_move.proofs.Slides.{vel_kept_along}
use Rattle.slide_move.proofs.Findings.{IsWhole, IsStuck, RunsInto, Finding, finding, leg-stuck, leg-runs, traces-last, traces-next}
use Rattle.slide_move.proofs.Hits.{along-whole}

-- ---- parts
part-plus : (axis : Axis) (v w : Vec3) → part axis (plus v w) ≡ part axis v +ℤ part axis w
part-plus X v w = refl
part-plus Y v w = refl
part-plus Z v w = refl

part-minus : (axis : Axis) (v w : Vec3) → part axis (minus v w) ≡ part axis v -ℤ part axis w
part-minus X v w = refl
part-minus Y v w = refl
part-minus Z v w = refl

part-zero_vector : (axis : Axis) → part axis zero_vector ≡ pos 0
part-zero_vector X = refl
part-zero_vector Y = refl
part-zero_vector Z = refl

-- another part is as it was
part-without_other : (axis other : Axis) (v : Vec3) → (number_of axis == number_of other) ≡ false
    → part other (without axis v) ≡ part other v
part-without_other X X v h = cc
part-without_other X Y v h = refl
part-without_other X Z v h = refl
part-without_other Y X v h = refl
part-without_other Y Y v h = cc
part-without_other Y Z v h = refl
part-without_other Z X v h = refl
part-without_other Z Y v h = refl
part-without_other Z Z v h = cc

part-without_same : (axis other : Axis) (v : Vec3) → (number_of axis == number_of other) ≡ true
    → part other (without axis v) ≡ pos 0
part-without_same X X v h = refl
part-without_same X Y v h = cc
part-without_same X Z v h = cc
part-without_same Y X v h = cc
part-without_same Y Y v h = refl
part-without_same Y Z v h = cc
part-without_same Z X v h = cc
part-without_same Z Y v h = cc
part-without_same Z Z v h = refl

tests_pass : (v : Vec3) → is_zero_vector v ≡ true
    → ThreePass (int_eq v.x (pos 0)) (int_eq v.y (pos 0)) (int_eq v.z (pos 0))
tests_pass v h = three_pass _ _ _ h

-- each part of a vector that is 0 is 0
part_of_none : (axis : Axis) (v : Vec3) → is_zero_vector v ≡ true → part axis v ≡ pos 0
part_of_none X v h = (Decides-int_eq v.x (pos 0)).0 (tests_pass v h).x
part_of_none Y v h = (Decides-int_eq v.y (pos 0)).0 (tests_pass v h).y
part_of_none Z v h = (Decides-int_eq v.z (pos 0)).0 (tests_pass v h).z

none_left : (v : Vec3) (t : Bool) → is_zero_vector v ≡ t → (if t then None else Some v) ≡ None → is_zero_vector v ≡ true
none_left v true is h = is
none_left v false is h = cc

some_left : (v r : Vec3) (t : Bool) → (if t then None else Some v) ≡ Some r → v ≡ r
some_left v r true h = cc
some_left v r false h = same_Some v r h

pub some_way-None : (v : Vec3) → some_way v ≡ None → is_zero_vector v ≡ true
some_way-None v h = none_left v (is_zero_vector v) refl h

pub some_way-Some : (v r : Vec3) → some_way v ≡ Some r → v ≡ r
some_way-Some v r h = some_left v r (is_zero_vector v) h

-- ---- on how many axes a way leads
unfoldable pub moves : ℤ → ℕ
moves (pos zero) = 0
moves (pos (suc n)) = 1
moves (negsuc n) = 1

unfoldable pub moving : Vec3 → ℕ
moving v = moves v.x + moves v.y + moves v.z

moves_most : (z : ℤ) → moves z ≤ 1
unfolding moves
moves_most (pos zero) = omega arith
moves_most (pos (suc n)) = omega arith
moves_most (negsuc n) = omega arith

pub moves_some : (z : ℤ) → z ≢ pos 0 → moves z ≡ 1
unfolding moves
moves_some (pos zero) h = absurd (h refl)
moves_some (pos (suc n)) h = refl
moves_some (negsuc n) h = refl

moves_left : (whole part : ℤ) → IsPart whole part → moves (whole -ℤ part) ≤ moves whole
unfolding moves
moves_left (pos zero) part p =
    let size = p.no_farther in
    let none : pos 0 -ℤ part ≡ pos 0 = omega (arith, ints) in
    rw none (omega arith)
moves_left (pos (suc n)) part p = moves_most (pos (suc n) -ℤ part)
moves_left (negsuc n) part p = moves_most (negsuc n -ℤ part)

pub three_at_most : (way : Vec3) → moving way ≤ 3
unfolding moving
three_at_most way = omega (arith, moves_most way.x, moves_most way.y, moves_most way.z)

pub moving_along : (axis : Axis) (way : Vec3) → part axis way ≢ pos 0 → 1 ≤ moving way
unfolding moving
moving_along X way some = omega (arith, moves_some way.x some)
moving_along Y way some = omega (arith, moves_some way.y some)
moving_along Z way some = omega (arith, moves_some way.z some)

-- what a hit on an axis leaves of a way leads on one axis less
pub fewer_left : (axis : Axis) (way shift : Vec3) → IsPartOfWay way shift → part axis way ≢ pos 0
    → moving (without axis (minus way shift)) + 1 ≤ moving way
unfolding moving moves
fewer_left X way shift p some =
    let x = moves_some way.x some in
    let y = moves_left way.y shift.y p.y in
    let z = moves_left way.z shift.z p.z in
    omega arith
fewer_left Y way shift p some =
    let x = moves_left way.x shift.x p.x in
    let y = moves_some way.y some in
    let z = moves_left way.z shift.z p.z in
    omega arith
fewer_left Z way shift p some =
    let x = moves_left way.x shift.x p.x in
    let y = moves_left way.y shift.y p.y in
    let z = moves_some way.z some in
    omega arith

-- ---- which traces stop the body on an axis

rest_fails : (a b : Bool) → (a || b) ≡ false → b ≡ false
rest_fails false b h = h
rest_fails true b h = cc

rest_passes : (a b : Bool) → a ≡ false → (a || b) ≡ true → b ≡ true
rest_passes true b none h = cc
rest_passes false b none h = h

whole_never_stops : (axis : Axis) (hit : Hit) → IsWhole hit → stops_on axis hit ≡ false
whole_never_stops axis hit is = ap (λ (w : Bool). not w && (is_none hit.axis || is_number_of axis hit.axis)) is.whole

stuck_stops : (axis : Axis) (hit : Hit) → IsStuck hit → stops_on axis hit ≡ true
stuck_stops axis hit stuck =
    ap (λ (w : Bool). not w && (is_none hit.axis || is_number_of axis hit.axis)) stuck.partly
    ∙ ap (λ (number : Option ℕ). is_none number || is_number_of axis number) stuck.none

runs_stops : (axis other : Axis) (way : Vec3) (hit : Hit) → RunsInto other way hit
    → stops_on axis hit ≡ (number_of other == number_of axis)
runs_stops axis other way hit runs =
    ap (λ (w : Bool). not w && (is_none hit.axis || is_number_of axis hit.axis)) runs.partly
    ∙ ap (λ (number : Option ℕ). is_none number || is_number_of axis number) runs.on

-- ---- a slide goes on
-- after a hit on another axis: the part of the way that was gone and the part that is left are the whole
gone_and_left : (axis other : Axis) (way shift : Vec3) → (number_of other == number_of axis) ≡ false
    → part axis shift +ℤ part axis (without other (minus way shift)) ≡ part axis way
gone_and_left axis other way shift apart =
    let left = part-without_other other axis (minus way shift) apart ∙ part-minus axis way shift in
    ap (λ (z : ℤ). part axis shift +ℤ z) left ∙ back (part axis shift) (part axis way)
  where
    back : (a b : ℤ) → a +ℤ (b -ℤ a) ≡ b
    back a b = omega (arith, ints)

-- a leg after which nothing is left
goes_on_last : (axis other : Axis) (vel way shift : Vec3) (slid : Slid) → (number_of other == number_of axis) ≡ false
    → is_zero_vector (without other (minus way shift)) ≡ true → slid.shift ≡ shift → slid.vel ≡ without other vel
    → GoesOnAlong axis way vel slid
goes_on_last axis other vel way shift slid apart none shift_is vel_is = record {
  shift =
      ap (part axis) shift_is
      ∙ sym (plus_none (part axis shift) _ (part_of_none axis (without other (minus way shift)) none))
      ∙ gone_and_left axis other way shift apart;
  vel_is = ap (part axis) vel_is ∙ part-without_other other axis vel apart;
} where
  plus_none : (a b : ℤ) → b ≡ pos 0 → a +ℤ b ≡ a
  plus_none a b is = omega (arith, ints)

-- a leg, and then a slide along what is left
goes_on_next : (axis other : Axis) (vel way shift rest : Vec3) (slid later : Slid)
    → (number_of other == number_of axis) ≡ false → without other (minus way shift) ≡ rest → slid.shift ≡ shift
    → slid.vel ≡ without other vel → GoesOnAlong axis rest slid.vel later → GoesOnAlong axis way vel (slide_then slid later)
goes_on_next axis other vel way shift rest slid later apart left shift_is vel_is goes = record {
  shift =
      part-plus axis slid.shift later.shift
      ∙ (λ i. part axis (shift_is i) +ℤ (goes.shift ∙ ap (part axis) (sym left)) i)
      ∙ gone_and_left axis other way shift apart;
  vel_is = goes.vel_is ∙ ap (part axis) vel_is ∙ part-without_other other axis vel apart;
}

-- the traces that come after the first one
later_fails : (traces : ℕ) (axis : Axis) (body : Bounds) (vel way : Vec3) (solids : List Bounds) (rest : Vec3)
    → (leg_of body vel way solids).rest ≡ Some rest
    → list_any (stops_on axis) (traces_along (suc traces) body vel way solids) ≡ false
    → list_any (stops_on axis) (traces_along traces (box_moved_by body (leg_of body vel way solids).slid.shift) (leg_of body vel way solids).slid.vel rest solids) ≡ false
later_fails traces axis body vel way solids rest some none =
    rest_fails _ _ (sym (ap (list_any (stops_on axis)) (traces-next traces body vel way solids rest some)) ∙ none)

first_trace_fails : (traces : ℕ) (axis : Axis) (body : Bounds) (vel way : Vec3) (solids : List Bounds)
    → list_any (stops_on axis) (traces_along (suc traces) body vel way solids) ≡ false
    → stops_on axis (trace_of body way solids) ≡ false
unfolding traces_along
first_trace_fails traces axis body vel way solids none = (or_parts _ _ none).0

-- what the traces left are known to do
abbrev GoesOnLater : ℕ → Axis → Bounds → Vec3 → List Bounds → Type 0
GoesOnLater traces axis there vel solids =
    (rest : Vec3) → moving rest ≤ traces
    → list_any (stops_on axis) (traces_along (suc traces) there vel rest solids) ≡ false
    → GoesOnAlong axis rest vel (slide_along (suc traces) there vel rest solids)

goes_on_after_hit : (traces : ℕ) (axis other : Axis) (body : Bounds) (vel way : Vec3) (solids : List Bounds)
    → moving way ≤ suc traces → list_any (stops_on axis) (traces_along (suc (suc traces)) body vel way solids) ≡ false
    → RunsInto other way (trace_of body way solids)
    → GoesOnLater traces axis (box_moved_by body (leg_of body vel way solids).slid.shift) (leg_of body vel way solids).slid.vel solids
    → (rest : Option Vec3) → (leg_of body vel way solids).rest ≡ rest
    → GoesOnAlong axis way vel (slide_along (suc (suc traces)) body vel way solids)
goes_on_after_hit traces axis other body vel way solids few none runs later None end =
    let shift = shift_at way (trace_of body way solids).steps in
    let is = leg-runs body vel way solids other runs in
    let apart = sym (runs_stops axis other way (trace_of body way solids) runs) ∙ first_trace_fails (suc traces) axis body vel way solids none in
    let left = some_way-None (without other (minus way shift)) (sym (ap (λ (t : Leg). t.rest) is) ∙ end) in
    let P : Slid → Type 0 = λ slid. GoesOnAlong axis way vel slid in
    subst P (sym (along-last (suc traces) body vel way solids end)) (goes_on_last axis other vel way shift (leg_of body vel way solids).slid apart left (ap (λ (t : Leg). t.slid.shift) is) (ap (λ (t : Leg). t.slid.vel) is))
goes_on_after_hit traces axis other body vel way solids few none runs later (Some rest) end =
    let shift = shift_at way (trace_of body way solids).steps in
    let is = leg-runs body vel way solids other runs in
    let apart = sym (runs_stops axis other way (trace_of body way solids) runs) ∙ first_trace_fails (suc traces) axis body vel way solids none in
    let left = some_way-Some (without other (minus way shift)) rest (sym (ap (λ (t : Leg). t.rest) is) ∙ end) in
    let goes = IsPartOfWay-shift_at way (trace_of body way solids).steps (IsTrace-trace_of body way solids).within in
    let less = fewer_left other way shift goes runs.moves in
    let fewer : moving rest ≤ traces = omega (arith, few, rw left at less) in
    let P : Slid → Type 0 = λ slid. GoesOnAlong axis way vel slid in
    subst P (sym (along-next (suc traces) body vel way solids rest end)) (goes_on_next axis other vel way shift rest (leg_of body vel way solids).slid _ apart left (ap (λ (t : Leg). t.slid.shift) is) (ap (λ (t : Leg). t.slid.vel) is) (later rest fewer (later_fails (suc traces) axis body vel way solids rest end none)))

goes_on_along : (traces : ℕ) (axis : Axis) (body : Bounds) (vel way : Vec3) (solids : List Bounds) → moving way ≤ traces
    → list_any (stops_on axis) (traces_along (suc traces) body vel way solids) ≡ false
    → Finding way (trace_of body way solids) → GoesOnAlong axis way vel (slide_along (suc traces) body vel way solids)
goes_on_along traces axis body vel way solids few none (inl is) =
    let P : Slid → Type 0 = λ slid. GoesOnAlong axis way vel slid in
    subst P (sym (along-whole traces body vel way solids is.whole)) (record { shift = refl; vel_is = refl })
goes_on_along traces axis body vel way solids few none (inr (inl stuck)) =
    absurd (both_ways _ (first_trace_fails traces axis body vel way solids none) (stuck_stops axis (trace_of body way solids) stuck))
goes_on_along zero axis body vel way solids few none (inr (inr into)) =
    absurd (omega (arith, few, moving_along into.axis way into.runs.moves))
goes_on_along (suc traces) axis body vel way solids few none (inr (inr into)) =
    let leg = leg_of body vel way solids in
    let there = box_moved_by body leg.slid.shift in
    goes_on_after_hit traces axis into.axis body vel way solids few none into.runs (λ rest fewer fails. goes_on_along traces axis there leg.slid.vel rest solids fewer fails (finding there rest solids)) leg.rest refl

pub goes_on_where_not_stopped : GoesOnWhereNotStopped
unfolding slide_of traces_of
goes_on_where_not_stopped body vel ms solids axis none =
    let way = displacement vel ms in
    goes_on_along 3 axis body vel way solids (three_at_most way) none (finding body way solids)

-- ---- a slide ends without velocity on an axis
-- what is 0 stays 0
still_stays : {a b : ℤ} → (b ≡ a) ⊎ (b ≡ pos 0) → a ≡ pos 0 → b ≡ pos 0
still_stays (inl same) none = same ∙ none
still_stays (inr stops) none = stops

stays_still : (axis : Axis) (old new : Vec3) → KeepsOrStops old new → part axis old ≡ pos 0 → part axis new ≡ pos 0
stays_still X old new keeps still = still_stays keeps.x still
stays_still Y old new keeps still = still_stays keeps.y still
stays_still Z old new keeps still = still_stays keeps.z still

-- the velocity at the end of a slide whose first leg leaves none on the axis
still_to_the_end : (traces : ℕ) (axis : Axis) (body : Bounds) (vel way : Vec3) (solids : List Bounds)
    → part axis (leg_of body vel way solids).slid.vel ≡ pos 0 → (rest : Option Vec3)
    → (leg_of body vel way solids).rest ≡ rest → part axis (slide_along (suc traces) body vel way solids).vel ≡ pos 0
still_to_the_end traces axis body vel way solids still None end =
    ap (λ (slid : Slid). part axis slid.vel) (along-last traces body vel way solids end) ∙ still
still_to_the_end traces axis body vel way solids still (Some rest) end =
    let leg = leg_of body vel way solids in
    ap (λ (slid : Slid). part axis slid.vel) (along-next traces body vel way solids rest end)
    ∙ stays_still axis leg.slid.vel _ (vel_kept_along traces (box_moved_by body leg.slid.shift) leg.slid.vel rest solids) still

-- a slide that a later trace stops on the axis
still_later : (traces : ℕ) (axis : Axis) (body : Bounds) (vel way : Vec3) (solids : List Bounds)
    → list_any (stops_on axis) (traces_along (suc traces) body vel way solids) ≡ true
    → stops_on axis (trace_of body way solids) ≡ false
    → ((rest : Vec3) → list_any (stops_on axis) (traces_along traces (box_moved_by body (leg_of body vel way solids).slid.shift) (leg_of body vel way solids).slid.vel rest solids) ≡ true → part axis (slide_along traces (box_moved_by body (leg_of body vel way solids).slid.shift) (leg_of body vel way solids).slid.vel rest solids).vel ≡ pos 0)
    → (rest : Option Vec3) → (leg_of body vel way solids).rest ≡ rest
    → part axis (slide_along (suc traces) body vel way solids).vel ≡ pos 0
still_later traces axis body vel way solids some first later None end =
    let none : false ≡ true =
    rest_passes _ _ first (sym (ap (list_any (stops_on axis)) (traces-last traces body vel way solids end)) ∙ some)
    in
    absurd (false≢true none)
still_later traces axis body vel way solids some first later (Some rest) end =
    ap (λ (slid : Slid). part axis slid.vel) (along-next traces body vel way solids rest end)
    ∙ later rest (rest_passes _ _ first (sym (ap (list_any (stops_on axis)) (traces-next traces body vel way solids rest end)) ∙ some))

ends_still_after_hit : (traces : ℕ) (axis other : Axis) (body : Bounds) (vel way : Vec3) (solids : List Bounds)
    → list_any (stops_on axis) (traces_along (suc traces) body vel way solids) ≡ true
    → RunsInto other way (trace_of body way solids)
    → ((rest : Vec3) → list_any (stops_on axis) (traces_along traces (box_moved_by body (leg_of body vel way solids).slid.shift) (leg_of body vel way solids).slid.vel rest solids) ≡ true → part axis (slide_along traces (box_moved_by body (leg_of body vel way solids).slid.shift) (leg_of body vel way solids).slid.vel rest solids).vel ≡ pos 0)
    → (t : Bool) → (number_of other == number_of axis) ≡ t
    → part axis (slide_along (suc traces) body vel way solids).vel ≡ pos 0
ends_still_after_hit traces axis other body vel way solids some runs later true same =
    let vel_is = ap (λ (t : Leg). part axis t.slid.vel) (leg-runs body vel way solids other runs) in
    still_to_the_end traces axis body vel way solids (vel_is ∙ part-without_same other axis vel same) (leg_of body vel way solids).rest refl
ends_still_after_hit traces axis other body vel way solids some runs later false apart =
    still_later traces axis body vel way solids some (runs_stops axis other way (trace_of body way solids) runs ∙ apart) later (leg_of body vel way solids).rest refl

no_trace_stops : (axis : Axis) (body : Bounds) (vel way : Vec3) (solids : List Bounds)
    → list_any (stops_on axis) (traces_along 0 body vel way solids) ≡ true → ⊥
unfolding traces_along
no_trace_stops axis body vel way solids h = false≢true h

ends_still_along : (traces : ℕ) (axis : Axis) (body : Bounds) (vel way : Vec3) (solids : List Bounds)
    → list_any (stops_on axis) (traces_along traces body vel way solids) ≡ true → Finding way (trace_of body way solids)
    → part axis (slide_along traces body vel way solids).vel ≡ pos 0
ends_still_along zero axis body vel way solids some found = absurd (no_trace_stops axis body vel way solids some)
ends_still_along (suc traces) axis body vel way solids some (inl is) =
    let leg = leg_of body vel way solids in
    still_later traces axis body vel way solids some (whole_never_stops axis (trace_of body way solids) is) (λ rest more. ends_still_along traces axis (box_moved_by body leg.slid.shift) leg.slid.vel rest solids more (finding (box_moved_by body leg.slid.shift) rest solids)) leg.rest refl
ends_still_along (suc traces) axis body vel way solids some (inr (inl stuck)) =
    let vel_is = ap (λ (t : Leg). part axis t.slid.vel) (leg-stuck body vel way solids stuck) in
    still_to_the_end traces axis body vel way solids (vel_is ∙ part-zero_vector axis) (leg_of body vel way solids).rest refl
ends_still_along (suc traces) axis body vel way solids some (inr (inr into)) =
    let leg = leg_of body vel way solids in
    ends_still_after_hit traces axis into.axis body vel way solids some into.runs (λ rest more. ends_still_along traces axis (box_moved_by body leg.slid.shift) leg.slid.vel rest solids more (finding (box_moved_by body leg.slid.shift) rest solids)) (number_of into.axis == number_of axis) refl

pub ends_still_where_stopped : EndsStillWhereStopped
unfolding slide_of traces_of
ends_still_where_stopped body vel ms solids axis some =
    let way = displacement vel ms in
    ends_still_along 4 axis body vel way solids some (finding body way solids)
