-- What a box meets first among records, one record after another.
use Rattle.std.proofs.Common.{◌≡◌, ℕ, ◌+◌, ◌≤◌, ◌<◌, ◌==◌, Bool, true, false, cond, ◌&&◌, ◌||◌, List, [], ◌∷◌, ◌++◌, Option, Some, None, refl, sym, ap, ◌∙◌, arith}
use Rattle.std.proofs.lemmas.Bool.{ne_eqb, or_from, or_parts}
use Rattle.std.proofs.lemmas.Bool.Decides.{nat_tests}
use Rattle.std.proofs.lemmas.List.{append_assoc}
use Rattle.std.proofs.lemmas.List.Folds.{list_any-append}
use Rattle.arena_geo.specs.declared.vec3.Vec3.{Vec3}
use Rattle.arena_geo.specs.Bounds.{Bounds}
use Rattle.arena_geo.specs.Boxes.{overlaps, is_blocked, hull}
use Rattle.box_trace.specs.Steps.{step_count, body_at}
use Rattle.box_trace.specs.Traces.{IsFree, trace_of}
use Rattle.box_trace.proofs.FirstMeetings.{IsFree-more}
use Rattle.box_trace.proofs.Traces.{IsTrace-trace_of}
use Rattle.entity_recs.specs.declared.rec.Rec.{Rec}
use Rattle.entity_recs.specs.Kinds.{is_solid}
use Rattle.entity_recs.specs.Bodies.{body_of}
use Rattle.trigger_rules.specs.Touching.{bodies_of_solids}
use Rattle.shot_rules.specs.declared.meeting.Met.{Met}
use Rattle.shot_rules.specs.Targets.{is_in_way, stopper_at, target_of}
use Rattle.shot_rules.specs.Meetings.{IsMeeting}
use Rattle.shot_rules.proofs.Stoppers.{bodies_with_solid, bodies_with_other, clear_where_free, stopper_stays, stopper_is_last, stopper_without}

-- ---- traces

-- a box that goes some steps of its way and no more is blocked at the next
pub blocked_next : (body : Bounds) (way : Vec3) (solids : List Bounds) → (trace_of body way solids).steps + 1 ≤ step_count way
    → is_blocked (body_at body way ((trace_of body way solids).steps + 1)) solids ≡ true
blocked_next body way solids next = by (is_blocked (body_at body way ((trace_of body way solids).steps + 1)) solids) refl
  where
    by : (t : Bool) → is_blocked (body_at body way ((trace_of body way solids).steps + 1)) solids ≡ t → t ≡ true
    by true e = refl
    by false e =
        let is = IsTrace-trace_of body way solids in
        let more = is.most ((trace_of body way solids).steps + 1) next (IsFree-more body way solids (trace_of body way solids).steps is.free e) in
        absurd (omega (arith, more))

module _ (body : Bounds) (way : Vec3) (solids : List Bounds) (one : Bounds) where
  abbrev both : List Bounds
  both = solids ++ one ∷ []

  -- free of both is free of each
  free_of_both : (k : ℕ) → IsFree body way solids k → IsFree body way (one ∷ []) k → IsFree body way both k
  free_of_both k a b = record {
    free = λ i from within.
        list_any-append (overlaps (body_at body way i)) solids (one ∷ [])
        ∙ or_from (is_blocked (body_at body way i) solids) (is_blocked (body_at body way i) (one ∷ [])) (a.free i from within) (b.free i from within);
  }

  free_of_solids : (k : ℕ) → IsFree body way both k → IsFree body way solids k
  free_of_solids k a = record {
    free = λ i from within.
        (or_parts (is_blocked (body_at body way i) solids) (is_blocked (body_at body way i) (one ∷ []))
        (sym (list_any-append (overlaps (body_at body way i)) solids (one ∷ [])) ∙ a.free i from within)).0;
  }

  free_of_one : (k : ℕ) → IsFree body way both k → IsFree body way (one ∷ []) k
  free_of_one k a = record {
    free = λ i from within.
        (or_parts (is_blocked (body_at body way i) solids) (is_blocked (body_at body way i) (one ∷ []))
        (sym (list_any-append (overlaps (body_at body way i)) solids (one ∷ [])) ∙ a.free i from within)).1;
  }

  fewer : (j k : ℕ) (of : List Bounds) → j ≤ k → IsFree body way of k → IsFree body way of j
  fewer j k of below a = record { free = λ i from within. a.free i from (omega (arith, within, below)) }

  abbrev first : ℕ
  first = (trace_of body way solids).steps

  abbrev other : ℕ
  other = (trace_of body way (one ∷ [])).steps

  -- a box that comes less far with one solid alone comes as far with all
  pub steps_with_nearer : other < first → (trace_of body way both).steps ≡ other
  steps_with_nearer nearer =
      let s = IsTrace-trace_of body way solids in
      let o = IsTrace-trace_of body way (one ∷ []) in
      let b = IsTrace-trace_of body way both in
      let least = b.most other o.within (free_of_both other (fewer other first solids (omega (arith, nearer)) s.free) o.free) in
      let most = o.most (trace_of body way both).steps b.within (free_of_one (trace_of body way both).steps b.free) in
      omega (arith, least, most)

  -- and one that comes no less far as far as without it
  pub steps_with_farther : first ≤ other → (trace_of body way both).steps ≡ first
  steps_with_farther farther =
      let s = IsTrace-trace_of body way solids in
      let o = IsTrace-trace_of body way (one ∷ []) in
      let b = IsTrace-trace_of body way both in
      let least = b.most first s.within (free_of_both first s.free (fewer first other (one ∷ []) farther o.free)) in
      let most = s.most (trace_of body way both).steps b.within (free_of_solids (trace_of body way both).steps b.free) in
      omega (arith, least, most)

-- ---- targets

the_none : Option Rec
the_none = None

-- what a box meets that goes so many steps
abbrev pub met_after : Bounds → Vec3 → List Bounds → List Rec → ℕ → Option Rec
met_after body way fixed near steps = cond (steps == step_count way) None (stopper_at (body_at body way (steps + 1)) fixed near)

pub target_is : (body : Bounds) (way : Vec3) (fixed : List Bounds) (near : List Rec)
    → target_of body way fixed near ≡ met_after body way fixed near (trace_of body way (fixed ++ bodies_of_solids near)).steps
unfolding target_of
target_is body way fixed near =
    let solids = fixed ++ bodies_of_solids near in
    ap (λ (w : Bool). cond w None (stopper_at (body_at body way ((trace_of body way solids).steps + 1)) fixed near)) (IsTrace-trace_of body way solids).whole

-- where nothing is looked at yet, it meets none
none_yet : (s t : Bool) → cond s None (cond t None (the_none)) ≡ the_none
unfolding the_none
none_yet true t = refl
none_yet false true = refl
none_yet false false = refl

pub meeting_at_first : (body : Bounds) (way : Vec3) (fixed : List Bounds) (m : Met) → m.steps ≡ (trace_of body way (fixed ++ [])).steps
    → m.swept ≡ hull body (body_at body way m.steps) → m.target ≡ None → IsMeeting body way fixed [] m
unfolding the_none
meeting_at_first body way fixed m steps swept target =
    let came = (trace_of body way (fixed ++ [])).steps in
    record {
      steps = steps;
      swept = swept;
      target = target ∙ sym (none_yet (came == step_count way) (is_blocked (body_at body way (came + 1)) fixed)) ∙ sym (target_is body way fixed []);
    }

or_nothing : (t : Bool) → (t || false) ≡ true → t ≡ true
or_nothing true h = refl
or_nothing false h = cc

-- ---- one record more
module _ (body : Bounds) (way : Vec3) (fixed : List Bounds) (near : List Rec) (r : Rec) where
  abbrev solids : List Bounds
  solids = fixed ++ bodies_of_solids near

  abbrev came : ℕ
  came = (trace_of body way solids).steps

  all_with_solid : is_solid r.kind ≡ true → fixed ++ bodies_of_solids (near ++ r ∷ []) ≡ solids ++ body_of r ∷ []
  all_with_solid solid =
      ap (λ (l : List Bounds). fixed ++ l) (bodies_with_solid near r solid) ∙ sym (append_assoc fixed (bodies_of_solids near) (body_of r ∷ []))

  -- a solid that stops the box earlier is what it meets first
  pub with_nearer : (steps : ℕ) (swept : Bounds) (m : Met) → IsMeeting body way fixed near m → is_solid r.kind ≡ true
      → steps ≡ (trace_of body way (body_of r ∷ [])).steps → steps < m.steps
      → swept ≡ hull body (body_at body way steps)
      → IsMeeting body way fixed (near ++ r ∷ []) (record { steps = steps; swept = swept; target = Some r })
  with_nearer steps swept m is solid steps_is nearer swept_is =
      let all = all_with_solid solid in
      let first = IsTrace-trace_of body way solids in
      let less : (trace_of body way (body_of r ∷ [])).steps < came = omega (arith, nearer, is.steps, steps_is) in
      let same : (trace_of body way (fixed ++ bodies_of_solids (near ++ r ∷ []))).steps ≡ steps =
      ap (λ (l : List Bounds). (trace_of body way l).steps) all ∙ steps_with_nearer body way solids (body_of r) less ∙ sym steps_is in
      let part : (steps == step_count way) ≡ false = ne_eqb steps (step_count way) (λ e. omega (arith, e, nearer, is.steps, first.within)) in
      let there = body_at body way (steps + 1) in
      let free : is_blocked there solids ≡ false = first.free.free (steps + 1) (omega arith) (omega (arith, nearer, is.steps)) in
      let next : (trace_of body way (body_of r ∷ [])).steps + 1 ≤ step_count way = omega (arith, less, first.within) in
      let stops : is_blocked there (body_of r ∷ []) ≡ true =
      ap (λ (k : ℕ). is_blocked (body_at body way (k + 1)) (body_of r ∷ [])) steps_is ∙ blocked_next body way (body_of r ∷ []) next in
      let in_way : is_in_way there r ≡ true = ap (λ (t : Bool). t && overlaps there (body_of r)) solid ∙ or_nothing (overlaps there (body_of r)) stops in
      record {
        steps = sym same;
        swept = swept_is;
        target =
            sym (stopper_is_last there fixed near r (clear_where_free there fixed near free) in_way)
            ∙ sym (ap (λ (w : Bool). cond w None (stopper_at there fixed (near ++ r ∷ []))) part)
            ∙ sym (ap (met_after body way fixed (near ++ r ∷ [])) same)
            ∙ sym (target_is body way fixed (near ++ r ∷ []));
      }

  -- one that doesn't changes nothing
  pub with_farther : (steps : ℕ) (m : Met) → IsMeeting body way fixed near m → is_solid r.kind ≡ true
      → steps ≡ (trace_of body way (body_of r ∷ [])).steps → m.steps ≤ steps → IsMeeting body way fixed (near ++ r ∷ []) m
  with_farther steps m is solid steps_is farther =
      let all = all_with_solid solid in
      let same : (trace_of body way (fixed ++ bodies_of_solids (near ++ r ∷ []))).steps ≡ came =
      ap (λ (l : List Bounds). (trace_of body way l).steps) all ∙ steps_with_farther body way solids (body_of r) (omega (arith, farther, is.steps, steps_is)) in
      record {
        steps = is.steps ∙ sym same;
        swept = is.swept;
        target =
            is.target
            ∙ target_is body way fixed near
            ∙ sym (stays (came == step_count way) refl)
            ∙ sym (ap (met_after body way fixed (near ++ r ∷ [])) same)
            ∙ sym (target_is body way fixed (near ++ r ∷ []));
      }
    where
      next_of_way : (k n : ℕ) → (k == n) ≡ false → k ≤ n → k + 1 ≤ n
      next_of_way k n other within = grind (arith, nat_tests)

      stays : (whole : Bool) → (came == step_count way) ≡ whole
          → cond whole None (stopper_at (body_at body way (came + 1)) fixed (near ++ r ∷ [])) ≡ cond whole None (stopper_at (body_at body way (came + 1)) fixed near)
      stays true e = refl
      stays false e =
          stopper_stays (body_at body way (came + 1)) fixed near r
          (blocked_next body way solids (next_of_way came (step_count way) e (IsTrace-trace_of body way solids).within))

  -- and neither does a record that is no solid
  pub with_other : (m : Met) → IsMeeting body way fixed near m → is_solid r.kind ≡ false → IsMeeting body way fixed (near ++ r ∷ []) m
  with_other m is other =
      let same : (trace_of body way (fixed ++ bodies_of_solids (near ++ r ∷ []))).steps ≡ came =
      ap (λ (l : List Bounds). (trace_of body way (fixed ++ l)).steps) (bodies_with_other near r other) in
      let there = body_at body way (came + 1) in
      let apart : is_in_way there r ≡ false = ap (λ (t : Bool). t && overlaps there (body_of r)) other in
      record {
        steps = is.steps ∙ sym same;
        swept = is.swept;
        target =
            is.target
            ∙ target_is body way fixed near
            ∙ sym (ap (cond (came == step_count way) None) (stopper_without there fixed near r apart))
            ∙ sym (ap (met_after body way fixed (near ++ r ∷ [])) same)
            ∙ sym (target_is body way fixed (near ++ r ∷ []));
      }
