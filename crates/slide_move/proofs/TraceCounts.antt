-- How many traces a slide makes.
use Rattle.std.proofs.Common.{◌≡◌, ℕ, zero, suc, ◌+◌, ◌≤◌, Bool, true, false, inl, inr, List, length, Option, Some, None, if◌then◌else◌, max, ℤ, pos, negsuc, refl, sym, ap, ◌∙◌, arith}
use Rattle.std.specs.Cmp.Derive.{both_true}
use Rattle.std.proofs.lemmas.Bool.Decides.{Decides-int_eq}
use Rattle.arena_geo.specs.declared.vec3.Vec3.{Vec3}
use Rattle.arena_geo.specs.Vectors.{minus}
use Rattle.arena_geo.specs.Bounds.{Bounds}
use Rattle.arena_geo.specs.Boxes.{box_moved_by}
use Rattle.box_trace.specs.declared.axis.Axis.{Axis}
use Rattle.box_trace.specs.declared.hit.Hit.{Hit}
use Rattle.box_trace.specs.Steps.{shift_at}
use Rattle.box_trace.specs.Traces.{trace_of}
use Rattle.box_trace.proofs.Traces.{IsTrace-trace_of}
use Rattle.slide_move.specs.declared.leg.Leg.{Leg}
use Rattle.slide_move.specs.Displacements.{displacement, without, is_zero_vector, some_way}
use Rattle.slide_move.specs.Slides.{leg_of}
use Rattle.slide_move.specs.Hits.{traces_along, traces_of}
use Rattle.slide_move.specs.Laws.{AtMostThreeTraces}
use Rattle.slide_move.proofs.Ways.{IsPartOfWay-shift_at}
use Rattle.slide_move.proofs.Findings.{RunsInto, Finding, finding, leg-whole, leg-stuck, leg-runs, traces-last, traces-next}
use Rattle.slide_move.proofs.GoingOn.{moves, moving, three_at_most, fewer_left, some_way-Some}

-- a way that leads nowhere is 0
none_moves : (z : ℤ) → moves z ≡ 0 → z ≡ pos 0
unfolding moves
none_moves (pos zero) h = refl
none_moves (pos (suc n)) h = absurd (omega arith)
none_moves (negsuc n) h = absurd (omega arith)

zero_where_nowhere : (v : Vec3) → moving v ≡ 0 → is_zero_vector v ≡ true
unfolding moving
zero_where_nowhere v h =
    both_true
    (both_true ((Decides-int_eq v.x (pos 0)).1 (none_moves v.x (omega arith))) ((Decides-int_eq v.y (pos 0)).1 (none_moves v.y (omega arith))))
    ((Decides-int_eq v.z (pos 0)).1 (none_moves v.z (omega arith)))

not_some : (v rest : Vec3) (t : Bool) → t ≡ true → (if t then None else Some v) ≡ Some rest → ⊥
not_some v rest true is h = cc
not_some v rest false is h = cc

-- a way that is left leads somewhere
left_moves : (v rest : Vec3) → some_way v ≡ Some rest → (n : ℕ) → moving v ≡ n → 1 ≤ n
left_moves v rest some zero none = absurd (not_some v rest (is_zero_vector v) (zero_where_nowhere v none) some)
left_moves v rest some (suc n) is = omega arith

one_trace : (traces : ℕ) (body : Bounds) (vel way : Vec3) (solids : List Bounds)
    → (leg_of body vel way solids).rest ≡ None
    → length (traces_along (suc traces) body vel way solids) ≤ max 1 (moving way)
one_trace traces body vel way solids end =
    let one = ap (length {A = Hit}) (traces-last traces body vel way solids end) in
    omega (arith, one)

-- a trace that runs into a solid, and those of what it leaves
one_more_trace : (traces : ℕ) (axis : Axis) (body : Bounds) (vel way : Vec3) (solids : List Bounds)
    → RunsInto axis way (trace_of body way solids)
    → ((rest : Vec3) → length (traces_along traces (box_moved_by body (leg_of body vel way solids).slid.shift) (leg_of body vel way solids).slid.vel rest solids) ≤ max 1 (moving rest))
    → (rest : Option Vec3) → (leg_of body vel way solids).rest ≡ rest
    → length (traces_along (suc traces) body vel way solids) ≤ max 1 (moving way)
one_more_trace traces axis body vel way solids runs later None end = one_trace traces body vel way solids end
one_more_trace traces axis body vel way solids runs later (Some rest) end =
    let shift = shift_at way (trace_of body way solids).steps in
    let goes = IsPartOfWay-shift_at way (trace_of body way solids).steps (IsTrace-trace_of body way solids).within in
    let some = sym (ap (λ (t : Leg). t.rest) (leg-runs body vel way solids axis runs)) ∙ end in
    let left = some_way-Some (without axis (minus way shift)) rest some in
    let less = fewer_left axis way shift goes runs.moves in
    let fewer : moving rest + 1 ≤ moving way = rw left at less in
    let leads = left_moves (without axis (minus way shift)) rest some _ refl in
    let leads_on : 1 ≤ moving rest = rw left at leads in
    let all = ap (length {A = Hit}) (traces-next traces body vel way solids rest end) in
    omega (arith, all, later rest)

count_along : (traces : ℕ) (body : Bounds) (vel way : Vec3) (solids : List Bounds)
    → Finding way (trace_of body way solids) → length (traces_along traces body vel way solids) ≤ max 1 (moving way)
unfolding traces_along
count_along zero body vel way solids found = omega arith
count_along (suc traces) body vel way solids (inl is) =
    one_trace traces body vel way solids (ap (λ (t : Leg). t.rest) (leg-whole body vel way solids is.whole))
count_along (suc traces) body vel way solids (inr (inl stuck)) =
    one_trace traces body vel way solids (ap (λ (t : Leg). t.rest) (leg-stuck body vel way solids stuck))
count_along (suc traces) body vel way solids (inr (inr into)) =
    let leg = leg_of body vel way solids in
    let there = box_moved_by body leg.slid.shift in
    one_more_trace traces into.axis body vel way solids into.runs (λ rest. count_along traces there leg.slid.vel rest solids (finding there rest solids)) leg.rest refl

pub at_most_three_traces : AtMostThreeTraces
unfolding traces_of
at_most_three_traces body vel ms solids =
    let way = displacement vel ms in
    omega (arith, count_along 4 body vel way solids (finding body way solids), three_at_most way)
