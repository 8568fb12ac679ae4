-- Where a trace ends: at the end of a free way, or before the solid that it names.
use Rattle.std.proofs.Common.{◌≡◌, ℕ, ◌+◌, ◌≤◌, ◌==◌, Bool, false, cond, List, Option, Some, None, get_or, refl, sym, ap, ◌∙◌, arith}
use Rattle.std.specs.Prelude.{position}
use Rattle.std.proofs.lemmas.Bool.{eq-eqb}
use Rattle.std.proofs.lemmas.Bool.Decides.{nat_tests}
use Rattle.std.proofs.lemmas.Option.{slice_get-get_or, get_or_from_slice_get}
use Rattle.std.proofs.lemmas.List.Quantifiers.{position-Some}
use Rattle.arena_geo.specs.declared.vec3.Vec3.{Vec3}
use Rattle.arena_geo.specs.Bounds.{Bounds}
use Rattle.arena_geo.specs.Boxes.{overlaps, is_blocked}
use Rattle.box_trace.specs.declared.hit.Hit.{Hit}
use Rattle.box_trace.specs.Steps.{step_count, body_at}
use Rattle.box_trace.specs.Traces.{IsFreeWay, IsTrace, block_at, trace_of}
use Rattle.box_trace.specs.Laws.{StepsAreFree, GoesWholeWay, FreeWayIsGone, StopsAtSolid, NamedSolidStops}
use Rattle.box_trace.proofs.Ranges.{body_at-last}
use Rattle.box_trace.proofs.Firsts.{list_any_where_none}
use Rattle.box_trace.proofs.FirstMeetings.{IsFree-more}
use Rattle.box_trace.proofs.Traces.{IsTrace-trace_of}

pub steps_are_free : StepsAreFree
steps_are_free body d solids k from within = (IsTrace-trace_of body d solids).free.free k from within

goes_whole_way : (body : Bounds) (d : Vec3) (solids : List Bounds) (hit : Hit) → IsTrace body d solids hit
    → IsFreeWay body d solids → GoesWholeWay body d hit
goes_whole_way body d solids hit trace free =
    let most = trace.most (step_count d) (omega arith) (record { free = free }) in
    let all : hit.steps ≡ step_count d = omega (arith, trace.within, most) in
    record {
      whole = trace.whole ∙ eq-eqb hit.steps (step_count d) all;
      end = ap (body_at body d) all ∙ body_at-last body d;
    }

pub free_way_is_gone : FreeWayIsGone
free_way_is_gone body d solids free =
    goes_whole_way body d solids (trace_of body d solids) (IsTrace-trace_of body d solids) free

pub next_of_way : (steps n : ℕ) → (steps == n) ≡ false → steps ≤ n → steps + 1 ≤ n
next_of_way steps n other within = grind (arith, nat_tests)

-- a step that is the next after those gone is blocked
next_is_blocked : (body : Bounds) (d : Vec3) (solids : List Bounds) (hit : Hit) → IsTrace body d solids hit
    → hit.steps + 1 ≤ step_count d → is_blocked (body_at body d (hit.steps + 1)) solids ≡ false → ⊥
next_is_blocked body d solids hit trace next free =
    let more = trace.most (hit.steps + 1) next (IsFree-more body d solids hit.steps trace.free free) in
    omega (arith, more)

-- what is known of the first solid that blocks the next step
stops_at : (body : Bounds) (d : Vec3) (solids : List Bounds) (hit : Hit) (block : ℕ) → hit.steps + 1 ≤ step_count d
    → hit.block ≡ Some block → position (overlaps (body_at body d (hit.steps + 1))) solids ≡ Some block
    → StopsAtSolid body d solids hit
stops_at body d solids hit block next named found =
    let p = overlaps (body_at body d (hit.steps + 1)) in
    let at = position-Some p solids block body found in
    record {
      block = block;
      solid = get_or solids block body;
      named = named;
      there = slice_get-get_or solids block body at.0;
      next = next;
      overlap = at.1;
      first = λ place other before there.
          ap p (sym (get_or_from_slice_get solids place other body there)) ∙ at.2 place before;
    }

stops_before : (body : Bounds) (d : Vec3) (solids : List Bounds) (hit : Hit) → IsTrace body d solids hit
    → hit.steps + 1 ≤ step_count d → (block : Option ℕ) → hit.block ≡ block
    → position (overlaps (body_at body d (hit.steps + 1))) solids ≡ block → StopsAtSolid body d solids hit
stops_before body d solids hit trace next None named found =
    absurd (next_is_blocked body d solids hit trace next (list_any_where_none (overlaps (body_at body d (hit.steps + 1))) solids found))
stops_before body d solids hit trace next (Some block) named found = stops_at body d solids hit block next named found

stopped : (body : Bounds) (d : Vec3) (solids : List Bounds) (hit : Hit) → IsTrace body d solids hit → hit.whole ≡ false
    → StopsAtSolid body d solids hit
stopped body d solids hit trace part =
    let next = next_of_way hit.steps (step_count d) (sym trace.whole ∙ part) trace.within in
    let named : hit.block ≡ block_at body d solids (hit.steps + 1) =
    trace.block ∙ ap (λ (w : Bool). cond w None (block_at body d solids (hit.steps + 1))) part
    in
    stops_before body d solids hit trace next (block_at body d solids (hit.steps + 1)) named refl

pub named_solid_stops : NamedSolidStops
named_solid_stops body d solids part =
    stopped body d solids (trace_of body d solids) (IsTrace-trace_of body d solids) part
