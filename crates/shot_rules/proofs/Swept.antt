-- A solid that a box doesn't sweep in its first steps doesn't stop it there.
use Rattle.std.proofs.Common.{◌≡◌, ℕ, zero, ◌*◌, ◌/◌, ◌≤◌, Bool, true, false, ◌||◌, ℤ, pos, negsuc, neg_ℤ, suc, ◌+ℤ◌, List, [], ◌∷◌, ◌++◌, refl, sym, ap, ◌∙◌, arith}
use Rattle.std.specs.Int.{int_min, int_max}
use Rattle.std.proofs.Math.Nat.{mul-le-mul_left, div-mul-le_self, div-zero}
use Rattle.std.proofs.lemmas.Nat.{le-div}
use Rattle.std.proofs.lemmas.Int.{ints}
use Rattle.std.proofs.lemmas.Bool.{true≢false}
use Rattle.arena_geo.specs.declared.vec3.Vec3.{Vec3}
use Rattle.arena_geo.specs.Bounds.{Bounds}
use Rattle.arena_geo.specs.Boxes.{overlaps, overlaps_on, contains, contains_on, hull}
use Rattle.arena_geo.proofs.Containment.{all_three, three_pass}
use Rattle.box_trace.specs.Steps.{step_count, part_at, body_at}
use Rattle.box_trace.specs.Traces.{IsFree, trace_of}
use Rattle.box_trace.proofs.Parts.{part_at-neg}
use Rattle.box_trace.proofs.Traces.{IsTrace-trace_of}
use Rattle.entity_recs.specs.declared.rec.Rec.{Rec}
use Rattle.entity_recs.specs.Kinds.{is_solid}
use Rattle.entity_recs.specs.Bodies.{body_of}
use Rattle.trigger_rules.specs.Touching.{bodies_of_solids}
use Rattle.shot_rules.specs.declared.meeting.Met.{Met}
use Rattle.shot_rules.specs.Meetings.{IsMeeting}
use Rattle.shot_rules.proofs.Nearest.{with_farther}

-- ---- where a box has been

up_between : (lo hi : ℤ) (p q : ℕ) → q ≤ p → contains_on (int_min lo (lo +ℤ pos p)) (int_max hi (hi +ℤ pos p)) (lo +ℤ pos q) (hi +ℤ pos q) ≡ true
up_between lo hi p q less = grind (arith, ints)

down_between : (lo hi : ℤ) (p q : ℕ) → q ≤ p
    → contains_on (int_min lo (lo +ℤ neg_ℤ (pos p))) (int_max hi (hi +ℤ neg_ℤ (pos p))) (lo +ℤ neg_ℤ (pos q)) (hi +ℤ neg_ℤ (pos q)) ≡ true
down_between lo hi p q less = grind (arith, ints)

fewer_go_less : (a j k n : ℕ) → j ≤ k → a * j / n ≤ a * k / n
fewer_go_less a j k zero less = rw (div-zero (a * j), div-zero (a * k)) (omega arith)
fewer_go_less a j k (suc n) less =
    le-div (a * j / suc n) (a * k) (suc n) (omega arith) (omega (arith, div-mul-le_self (a * j) (suc n), mul-le-mul_left a less))

-- on an axis it is at an earlier step between the start and where it is later
between_on : (n j k : ℕ) (part lo hi : ℤ) → j ≤ k
    → contains_on (int_min lo (lo +ℤ part_at n k part)) (int_max hi (hi +ℤ part_at n k part)) (lo +ℤ part_at n j part) (hi +ℤ part_at n j part) ≡ true
between_on n j k (pos a) lo hi less = up_between lo hi (a * k / n) (a * j / n) (fewer_go_less a j k n less)
between_on n j k (negsuc a) lo hi less =
    rw (part_at-neg n k a, part_at-neg n j a) (down_between lo hi (suc a * k / n) (suc a * j / n) (fewer_go_less (suc a) j k n less))

been_there : (body : Bounds) (way : Vec3) (j k : ℕ) → j ≤ k → contains (hull body (body_at body way k)) (body_at body way j) ≡ true
been_there body way j k less =
    let n = step_count way in
    all_three (between_on n j k way.x body.lo.x body.hi.x less) (between_on n j k way.y body.lo.y body.hi.y less) (between_on n j k way.z body.lo.z body.hi.z less)

-- ---- what is elsewhere

wider_on : (lo hi l h from to : ℤ) → contains_on lo hi l h ≡ true → overlaps_on l h from to ≡ true → overlaps_on lo hi from to ≡ true
wider_on lo hi l h from to contained over = grind (arith, ints)

wider : (a b solid : Bounds) → contains a b ≡ true → overlaps b solid ≡ true → overlaps a solid ≡ true
wider a b solid contained over =
    let t = three_pass _ _ _ contained in
    let u = three_pass _ _ _ over in
    all_three (wider_on a.lo.x a.hi.x b.lo.x b.hi.x solid.lo.x solid.hi.x t.x u.x) (wider_on a.lo.y a.hi.y b.lo.y b.hi.y solid.lo.y solid.hi.y t.y u.y)
    (wider_on a.lo.z a.hi.z b.lo.z b.hi.z solid.lo.z solid.hi.z t.z u.z)

module _ (body : Bounds) (way : Vec3) (solid : Bounds) (k : ℕ) (apart : overlaps (hull body (body_at body way k)) solid ≡ false) where
  not_there : (i : ℕ) → i ≤ k → (t : Bool) → overlaps (body_at body way i) solid ≡ t → (t || false) ≡ false
  not_there i within true over = absurd (true≢false (sym (wider (hull body (body_at body way k)) (body_at body way i) solid (been_there body way i k within) over) ∙ apart))
  not_there i within false over = refl

  free_of_unswept : IsFree body way (solid ∷ []) k
  free_of_unswept = record {
    free = λ i from within. ap (λ (t : Bool). t || false) refl ∙ not_there i within (overlaps (body_at body way i) solid) refl;
  }

-- a solid that the box hasn't swept when it is stopped changes nothing
pub with_unswept : (body : Bounds) (way : Vec3) (fixed : List Bounds) (near : List Rec) (r : Rec) (m : Met) → IsMeeting body way fixed near m
    → is_solid r.kind ≡ true → overlaps m.swept (body_of r) ≡ false → IsMeeting body way fixed (near ++ r ∷ []) m
with_unswept body way fixed near r m is solid apart =
    let here : overlaps (hull body (body_at body way m.steps)) (body_of r) ≡ false = sym (ap (λ (b : Bounds). overlaps b (body_of r)) is.swept) ∙ apart in
    let all = IsTrace-trace_of body way (fixed ++ bodies_of_solids near) in
    let one = IsTrace-trace_of body way (body_of r ∷ []) in
    let farther : m.steps ≤ (trace_of body way (body_of r ∷ [])).steps =
    one.most m.steps (omega (arith, is.steps, all.within)) (free_of_unswept body way (body_of r) m.steps here) in
    with_farther body way fixed near r (trace_of body way (body_of r ∷ [])).steps m is solid refl farther
