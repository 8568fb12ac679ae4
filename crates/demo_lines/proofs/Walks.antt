-- A reader's way over lines that give no event, and where it ends.
use Rattle.std.proofs.Common.{◌≡◌, ℕ, ◌≤◌, ◌<◌, Bool, true, false, List, [], ◌∷◌, inl, inr, Option, Some, None, IfSome, cond, refl, sym, ap, ◌∙◌, subst, arith}
use Rattle.edge_io.specs.Lines.{GivesLine, GivesLastPart}
use Rattle.demo_lines.specs.declared.line.Line.{Line}
use Rattle.demo_lines.specs.declared.line.Line.TheVariants.{OfMap, Frame, From, End}
use Rattle.demo_lines.specs.declared.line_fault.LineFault.{LineFault}
use Rattle.demo_lines.specs.declared.demo_stop.DemoStop.{DemoStop}
use Rattle.demo_lines.specs.declared.demo_stop.DemoStop.TheVariants as stops
use Rattle.demo_lines.specs.declared.event.Event.{Event}
use Rattle.demo_lines.specs.declared.event.Event.TheVariants as events
use Rattle.demo_lines.specs.Known.{Reading, is_over, is_refused, is_map_whole}
use Rattle.demo_lines.specs.Lines.{is_end, line_in}
use Rattle.demo_lines.specs.Faults.{fault_of}
use Rattle.demo_lines.specs.Recording.{next, after_test, event_of, events_of_test, events_of_line, lines_left}
use Rattle.demo_lines.specs.Said.{line_said}
use Rattle.demo_lines.specs.Bytes.{LineRefusal, refusal}
use Rattle.demo_lines.specs.Readings.{IsReading}
use Rattle.demo_lines.specs.Reads.{Reads, ReadsQuietly, Refuses, EndsAt, IsQuiet, IsRefusedAt, IsRefusedLast, TakesCutEnd, OnRefused, OnReadFault, OnNoMemory, stage_after}
use Rattle.demo_lines.proofs.Consuming.{ReadsWhole, whole-line, quiet-line, reads-whole, Reads-cut, takes_cut_end, Refuses-line, Refuses-end, refused_by_line, refused_by_end, refused_by_cut_end}
use Rattle.demo_lines.proofs.Ends.{next-counts}
use Rattle.demo_lines.proofs.OnePass.{next-short, events-short}
use Rattle.demo_lines.proofs.Prefixes.{end_says}

-- from one reading to another, over lines that gave no event
pub record Walks (r s : Reading) (a b : Option (List ℕ)) : Type 0 where
  pub holds : IsReading s
  pub going : is_over s.stage ≡ false
  pub reads : ReadsWhole r s a b []
  pub fewer : lines_left s ≤ lines_left r

-- a line that gives an event
pub walk_event : (r s t : Reading) (a b c : Option (List ℕ)) (line : List ℕ) (e : Event) → Walks r s a b → GivesLine b c line
    → t ≡ next s line → events_of_line s line ≡ e ∷ [] → Reads r t a c (e ∷ [])
walk_event r s t a b c line e walks gives is given =
    let P : List Event → Type 0 = λ es. Reads r (next s line) a c es in
    let Q : Reading → Type 0 = λ u. Reads r u a c (e ∷ []) in
    subst Q (sym is) (subst P given (reads-whole r (next s line) a c _ (whole-line r s a b c [] line walks.reads walks.going gives)))

-- an end without a line feed that gives an event
pub walk_cut : (r s t : Reading) (a b c : Option (List ℕ)) (line pending : List ℕ) (e : Event) → Walks r s a b → GivesLastPart b c line pending → is_end line ≡ true
    → t ≡ next s line → events_of_line s line ≡ e ∷ [] → Reads r t a c (e ∷ [])
walk_cut r s t a b c line pending e walks gives end is given =
    let P : List Event → Type 0 = λ es. Reads r (next s line) a c es in
    let Q : Reading → Type 0 = λ u. Reads r u a c (e ∷ []) in
    subst Q (sym is) (subst P given (Reads-cut r s a b c [] line pending walks.reads walks.going gives end))

pub walk_takes_cut : (r s : Reading) (a b c : Option (List ℕ)) (line pending : List ℕ) → Walks r s a b → GivesLastPart b c line pending → is_end line ≡ true
    → TakesCutEnd a c
walk_takes_cut r s a b c line pending walks gives end = takes_cut_end r s a b c [] line pending walks.reads gives end

-- a line that gives no event
pub walk_on : (r s t : Reading) (a b c : Option (List ℕ)) (line : List ℕ) → Walks r s a b → GivesLine b c line
    → t ≡ next s line → events_of_line s line ≡ [] → IsReading t → is_over t.stage ≡ false → lines_left t < lines_left s → Walks r t a c
walk_on r s t a b c line walks gives is quiet holds going fewer =
    let P : List Event → Type 0 = λ es. ReadsWhole r (next s line) a c es in
    let Q : Reading → Type 0 = λ u. ReadsWhole r u a c [] in
    let less : lines_left t ≤ lines_left r = omega (arith, walks.fewer) in
    record {
      holds = holds;
      going = going;
      reads = subst Q (sym is) (subst P quiet (whole-line r s a b c [] line walks.reads walks.going gives));
      fewer = less;
    }

-- ---- at a stop

pub on_refused : (stop : DemoStop) (P Q : LineRefusal → Type 0) → ((why : LineRefusal) → P why → Q why) → OnRefused stop P → OnRefused stop Q
on_refused (stops.Refused line fault rule) P Q f p = f _ p
on_refused stops.ReadFault P Q f p = tt
on_refused stops.NoMemory P Q f p = tt

pub on_read_fault : (stop : DemoStop) (P : Type 0) → OnReadFault stop ⊥ → OnReadFault stop P
on_read_fault (stops.Refused line fault rule) P none = tt
on_read_fault stops.ReadFault P none = absurd none
on_read_fault stops.NoMemory P none = tt

pub on_no_memory : (stop : DemoStop) (P Q : Type 0) → (P → Q) → OnNoMemory stop P → OnNoMemory stop Q
on_no_memory (stops.Refused line fault rule) P Q f p = tt
on_no_memory stops.ReadFault P Q f p = tt
on_no_memory stops.NoMemory P Q f p = f p

pub never : (stop : DemoStop) (P : Type 0) → OnNoMemory stop ⊥ → OnNoMemory stop P
never (stops.Refused line fault rule) P none = tt
never stops.ReadFault P none = tt
never stops.NoMemory P none = absurd none

-- a line that is refused: what is ahead ends there, and it was taken last
pub walk_refused_at : (r s t : Reading) (a b c : Option (List ℕ)) (line : List ℕ) (why : LineRefusal) → Walks r s a b → GivesLine b c line → IsRefusedAt s t line why
    → IfSome a (EndsAt r why)
walk_refused_at r s t a b c line why walks gives at =
    let here = refused_by_line r s a b c line at.fault walks.reads gives (ap (λ (u : Reading). u.stage) (sym at.is_next) ∙ at.stage) in
    let same : refusal (next s line).lines at.fault ≡ why = ap (λ (u : Reading). refusal u.lines at.fault) (sym at.is_next) ∙ sym at.counted in
    subst (λ w. IfSome a (EndsAt r w)) same here

pub walk_taken_at : (r s t : Reading) (a b c : Option (List ℕ)) (line : List ℕ) (why : LineRefusal) (P Q : Type 0) → Walks r s a b → GivesLine b c line → IsRefusedAt s t line why
    → P → Refuses r a c why.line P Q
walk_taken_at r s t a b c line why P Q walks gives at p =
    let stops = ap (λ (u : Reading). is_refused u.stage) (sym at.is_next) ∙ ap is_refused at.stage in
    let same : (next s line).lines ≡ why.line = ap (λ (u : Reading). u.lines) (sym at.is_next) ∙ ap (λ (w : LineRefusal). w.line) (sym at.counted) in
    subst (λ k. Refuses r a c k P Q) same (Refuses-line r s a b c line P Q walks.reads walks.going gives stops p)

-- the same of an end without a line feed
pub walk_cut_refused_at : (r s t : Reading) (a b c : Option (List ℕ)) (line pending : List ℕ) (why : LineRefusal) → Walks r s a b → GivesLastPart b c line pending
    → is_end line ≡ true → IsRefusedAt s t line why → IfSome a (EndsAt r why)
walk_cut_refused_at r s t a b c line pending why walks gives end at =
    let here = refused_by_cut_end r s a b c line pending at.fault walks.reads gives end (ap (λ (u : Reading). u.stage) (sym at.is_next) ∙ at.stage) in
    let same : refusal (next s line).lines at.fault ≡ why = ap (λ (u : Reading). refusal u.lines at.fault) (sym at.is_next) ∙ sym at.counted in
    subst (λ w. IfSome a (EndsAt r w)) same here

pub walk_cut_taken_at : (r s t : Reading) (a b c : Option (List ℕ)) (line pending : List ℕ) (why : LineRefusal) (P Q : Type 0) → Walks r s a b → GivesLastPart b c line pending
    → IsRefusedAt s t line why → Q → Refuses r a c why.line P Q
walk_cut_taken_at r s t a b c line pending why P Q walks gives at q =
    let counted = ap (λ (w : LineRefusal). w.line) at.counted ∙ ap (λ (u : Reading). u.lines) at.is_next ∙ next-counts s line walks.going in
    subst (λ k. Refuses r a c k P Q) (sym counted) (Refuses-end r s a b c line pending P Q walks.reads walks.going gives q)

-- a line that gives no event, where memory is refused
pub walk_quiet : (r s : Reading) (a b c : Option (List ℕ)) (line : List ℕ) → Walks r s a b → GivesLine b c line → IsQuiet s (line_said s.stage line)
    → ReadsQuietly r a c
walk_quiet r s a b c line walks gives quiet =
    let is = next-short s line walks.going gives.fits in
    let fine : is_refused (next s line).stage ≡ false = ap (λ (t : Reading). is_refused t.stage) is ∙ ap is_refused quiet.stage in
    let none : events_of_line s line ≡ [] = events-short s line walks.going gives.fits fine ∙ quiet.event in
    quiet-line r s a b c line walks.reads walks.going gives none (ap (λ (t : Reading). t.stage) is ∙ quiet.stage)

-- ---- how far a recording has come after an event

pub whole_after : (e : Event) → is_map_whole (stage_after e) ≡ true
whole_after events.Frame = refl
whole_after (events.From a) = refl
whole_after events.End = refl

one_event : (e f : Event) → e ∷ [] ≡ f ∷ [] → e ≡ f
one_event e f h = cc

stage_after-by : (s : Reading) (over : Bool) (fault : Option LineFault) (line : Option Line) (e : Event) → cond over [] (events_of_test fault line) ≡ e ∷ []
    → (cond over s (after_test s fault line)).stage ≡ stage_after e
stage_after-by s true fault line e given = cc
stage_after-by s false (Some why) line e given = cc
stage_after-by s false None None e given = cc
stage_after-by s false None (Some (OfMap line)) e given = cc
stage_after-by s false None (Some Frame) e given = ap stage_after (one_event events.Frame e given)
stage_after-by s false None (Some (From a)) e given = ap stage_after (one_event (events.From a) e given)
stage_after-by s false None (Some End) e given = ap stage_after (one_event events.End e given)

-- after a line that gives an event the recording is where the event says
pub stage_after-line : (s t : Reading) (line : List ℕ) (e : Event) → t ≡ next s line → events_of_line s line ≡ e ∷ [] → t.stage ≡ stage_after e
stage_after-line s t line e is given =
    ap (λ (u : Reading). u.stage) is ∙ stage_after-by s (is_over s.stage) (fault_of s false line) (line_in line) e given

-- ---- a line that gives no event and isn't refused doesn't end the recording

quiet_goes_on : (s : Reading) (over : Bool) (fault : Option LineFault) (line : Option Line) → over ≡ false → cond over [] (events_of_test fault line) ≡ []
    → is_refused (cond over s (after_test s fault line)).stage ≡ false → is_over (cond over s (after_test s fault line)).stage ≡ false
quiet_goes_on s true fault line going quiet taken = cc
quiet_goes_on s false (Some why) line going quiet taken = cc
quiet_goes_on s false None None going quiet taken = cc
quiet_goes_on s false None (Some (OfMap line)) going quiet taken = refl
quiet_goes_on s false None (Some Frame) going quiet taken = cc
quiet_goes_on s false None (Some (From a)) going quiet taken = cc
quiet_goes_on s false None (Some End) going quiet taken = cc

pub goes_on-quiet : (s t : Reading) (line : List ℕ) → is_over s.stage ≡ false → t ≡ next s line → events_of_line s line ≡ [] → is_refused t.stage ≡ false → is_over t.stage ≡ false
goes_on-quiet s t line going is quiet taken =
    ap (λ (u : Reading). is_over u.stage) is
    ∙ quiet_goes_on s (is_over s.stage) (fault_of s false line) (line_in line) going quiet (ap (λ (u : Reading). is_refused u.stage) (sym is) ∙ taken)

-- ---- what the input ended with

-- an end gives no event but the recording's end
end_event-by : (over : Bool) (fault : Option LineFault) (line : Option Line) (e : Event) → line ≡ Some End → cond over [] (events_of_test fault line) ≡ e ∷ []
    → e ≡ events.End
end_event-by true fault line e is given = cc
end_event-by false (Some why) line e is given = cc
end_event-by false None line e is given = sym (one_event events.End e (ap event_of (sym is) ∙ given))

pub end_event : (s : Reading) (line : List ℕ) (e : Event) → is_end line ≡ true → events_of_line s line ≡ e ∷ [] → e ≡ events.End
end_event s line e end given = end_event-by (is_over s.stage) (fault_of s false line) (line_in line) e (end_says line end) given

pub refused_last : (r s t : Reading) (a b c : Option (List ℕ)) (line pending : List ℕ) (why : LineRefusal) → Walks r s a b → GivesLastPart b c line pending
    → IsRefusedLast s t line why → IfSome a (EndsAt r why)
refused_last r s t a b c line pending why walks gives (inl at) = walk_cut_refused_at r s t a b c line pending why walks gives at.0 at.1
refused_last r s t a b c line pending why walks gives (inr at) =
    subst (λ w. IfSome a (EndsAt r w)) (sym at.1) (refused_by_end r s a b c line pending walks.reads gives walks.going at.0)

pub taken_last : (r s t : Reading) (a b c : Option (List ℕ)) (line pending : List ℕ) (why : LineRefusal) (P Q : Type 0) → Walks r s a b → GivesLastPart b c line pending
    → IsRefusedLast s t line why → Q → Refuses r a c why.line P Q
taken_last r s t a b c line pending why P Q walks gives (inl at) q = walk_cut_taken_at r s t a b c line pending why P Q walks gives at.1 q
taken_last r s t a b c line pending why P Q walks gives (inr at) q =
    subst (λ k. Refuses r a c k P Q) (ap (λ (w : LineRefusal). w.line) (sym at.1)) (Refuses-end r s a b c line pending P Q walks.reads walks.going gives q)
