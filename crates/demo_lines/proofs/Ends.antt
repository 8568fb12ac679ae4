-- Where a recording is refused.
use Rattle.std.proofs.Common.{◌≡◌, ℕ, ◌+◌, ◌≤◌, ◌<◌, Bool, true, false, not, List, [], ◌∷◌, ◌++◌, length, Option, Some, None, ◌⊎◌, inl, inr, refl, ap, ◌∙◌, subst, cond, arith, option_map, length-append}
use Rattle.std.specs.List.{AllByRecursion}
use Rattle.std.proofs.lemmas.Bool.Decides.{nat_tests}
use Rattle.edge_io.specs.Lines.{HasNoLineFeed}
use Rattle.edge_io.specs.WholeLines.{unlines}
use Rattle.demo_lines.specs.declared.stage.Stage.{Stage}
use Rattle.demo_lines.specs.declared.stage.Stage.TheVariants.{Start, Map, Playing, Ended, Refused}
use Rattle.demo_lines.specs.declared.line.Line.{Line}
use Rattle.demo_lines.specs.declared.line.Line.TheVariants.{OfMap, Frame, From, End}
use Rattle.demo_lines.specs.declared.line_fault.LineFault.{LineFault}
use Rattle.demo_lines.specs.declared.line_fault.LineFault.TheVariants as faults
use Rattle.demo_lines.specs.Known.{Reading, is_over, is_refused, at_stage}
use Rattle.demo_lines.specs.Lines.{text_of, first_word, rest_of, is_end, line_in}
use Rattle.demo_lines.specs.Faults.{is_long, is_cut, has_strange_byte, fault_of_words, fault_of}
use Rattle.demo_lines.specs.Recording.{next, after_test, events_of_test, events_of_line, after, events_of}
use Rattle.demo_lines.specs.Bytes.{LineRefusal, refusal, refused_at, refused_where, last_part, cut_end, lines_of, events_in}
use Rattle.demo_lines.specs.Reads.{EndsAt}
use Rattle.demo_lines.proofs.Machines.{run_of-append, outputs_of-append, run_of-fixed, outputs_of-fixed}
use Rattle.demo_lines.proofs.Parts.{last_part-unlines, last_part-none, lines_of-unlines, lines_of-none, long_is_no_end, front-parts, BeginsLine, BeginsPart}

-- ---- states in which the rest is ignored

pub next-over : (r : Reading) (line : List ℕ) → is_over r.stage ≡ true → next r line ≡ r
next-over r line over = ap (λ b. cond b r (after_test r (fault_of r false line) (line_in line))) over

pub events_of_line-over : (r : Reading) (line : List ℕ) → is_over r.stage ≡ true → events_of_line r line ≡ []
events_of_line-over r line over = ap (λ b. cond b [] (events_of_test (fault_of r false line) (line_in line))) over

quiet-refused : (r : Reading) (over : Bool) (fault : Option LineFault) (line : Option Line) → is_refused (cond over r (after_test r fault line)).stage ≡ true
    → cond over [] (events_of_test fault line) ≡ []
quiet-refused r true fault line h = refl
quiet-refused r false (Some why) line h = refl
quiet-refused r false None None h = refl
quiet-refused r false None (Some (OfMap line)) h = refl
quiet-refused r false None (Some Frame) h = cc
quiet-refused r false None (Some (From a)) h = cc
quiet-refused r false None (Some End) h = cc

pub events_of_line-refused : (r : Reading) (line : List ℕ) → is_refused (next r line).stage ≡ true → events_of_line r line ≡ []
events_of_line-refused r line refused = quiet-refused r (is_over r.stage) (fault_of r false line) (line_in line) refused

pub after-over : (r : Reading) (lines : List (List ℕ)) → is_over r.stage ≡ true → after r lines ≡ r
after-over r lines over = run_of-fixed next events_of_line r lines (λ line. next-over r line over)

pub events_of-over : (r : Reading) (lines : List (List ℕ)) → is_over r.stage ≡ true → events_of r lines ≡ []
events_of-over r lines over = outputs_of-fixed next events_of_line r lines (λ line. next-over r line over) (λ line. events_of_line-over r line over)

-- ---- one line

test-counts : (r : Reading) (fault : Option LineFault) (line : Option Line) → (after_test r fault line).lines ≡ r.lines + 1
test-counts r (Some why) line = refl
test-counts r None None = refl
test-counts r None (Some (OfMap line)) = refl
test-counts r None (Some Frame) = refl
test-counts r None (Some (From a)) = refl
test-counts r None (Some End) = refl

-- a line that is read is counted
pub next-counts : (r : Reading) (line : List ℕ) → is_over r.stage ≡ false → (next r line).lines ≡ r.lines + 1
next-counts r line going =
    ap (λ b. (cond b r (after_test r (fault_of r false line) (line_in line))).lines) going ∙ test-counts r (fault_of r false line) (line_in line)

pub over_refused : (stage : Stage) → is_refused stage ≡ true → is_over stage ≡ true
over_refused Start h = cc
over_refused Map h = cc
over_refused Playing h = cc
over_refused Ended h = cc
over_refused (Refused why) h = refl

-- a line that is refused ends what is ahead
pub events_of-refused : (r : Reading) (line : List ℕ) (lines : List (List ℕ)) → is_refused (next r line).stage ≡ true → events_of r (line ∷ lines) ≡ []
events_of-refused r line lines refused =
    ap (λ es. es ++ events_of (next r line) lines) (events_of_line-refused r line refused) ∙ events_of-over (next r line) lines (over_refused (next r line).stage refused)

-- ---- the ways to be refused

pub refused_at-open : (stage : Stage) (r : Reading) (part : List ℕ) → is_over stage ≡ false → refused_at stage r part ≡ option_map (refusal (r.lines + 1)) (fault_of r true part)
refused_at-open Start r part going = refl
refused_at-open Map r part going = refl
refused_at-open Playing r part going = refl
refused_at-open Ended r part going = cc
refused_at-open (Refused why) r part going = cc

pub refused_where-after : (t : Reading) (lines : List (List ℕ)) (part : List ℕ) (why : LineFault) → t.stage ≡ Refused why → refused_where (after t lines) part ≡ Some (refusal t.lines why)
refused_where-after t lines part why refused =
    ap (λ u. refused_where u part) (after-over t lines (ap is_over refused)) ∙ ap (λ stage. refused_at stage t part) refused

-- bytes whose first line is refused
pub ends_where_first : (r : Reading) (bytes line : List ℕ) (lines : List (List ℕ)) (why : LineFault) → lines_of bytes ≡ line ∷ lines → (next r line).stage ≡ Refused why
    → EndsAt r (refusal (next r line).lines why) bytes
ends_where_first r bytes line lines why first refused = record {
  events = ap (events_of r) first ∙ events_of-refused r line lines (ap is_refused refused);
  fault = ap (λ ls. refused_where (after r ls) (last_part bytes)) first ∙ refused_where-after (next r line) lines (last_part bytes) why refused;
}

-- bytes that have no line, and end with this fault
pub ends_without : (r : Reading) (bytes part : List ℕ) (why : LineFault) → is_over r.stage ≡ false → lines_of bytes ≡ [] → last_part bytes ≡ part
    → fault_of r true part ≡ Some why → EndsAt r (refusal (r.lines + 1) why) bytes
ends_without r bytes part why going none last fault = record {
  events = ap (events_of r) none;
  fault = ap (λ ls. refused_where (after r ls) (last_part bytes)) none ∙ ap (refused_where r) last ∙ refused_at-open r.stage r part going
      ∙ ap (option_map (refusal (r.lines + 1))) fault;
}

long_line : (raw : List ℕ) → 512 < length raw → is_long raw ≡ true
long_line raw long = grind (arith, nat_tests)

short_line : (raw : List ℕ) → length raw ≤ 512 → is_long raw ≡ false
short_line raw fits = grind (arith, nat_tests)

-- the tests after those of the length and the end of the input
abbrev fault_of-rest : Reading → List ℕ → Option LineFault
fault_of-rest r raw = cond (has_strange_byte raw) (Some faults.Byte) (fault_of_words r (first_word (text_of raw)) (rest_of (text_of raw)))

-- a line that is too long has fault 1, whether the input ends in it or not
pub fault_of-long : (r : Reading) (ended : Bool) (raw : List ℕ) → 512 < length raw → fault_of r ended raw ≡ Some faults.Long
fault_of-long r ended raw long =
    let rest = cond (is_cut ended raw) (Some faults.NoEnd) (fault_of-rest r raw) in
    ap (λ b. cond b (Some faults.Long) rest) (long_line raw long)

-- what the input ended with has fault 10, where it is no end
fault_of-cut : (r : Reading) (raw : List ℕ) → length raw ≤ 512 → is_end raw ≡ false → fault_of r true raw ≡ Some faults.NoEnd
fault_of-cut r raw fits no_end =
    ap (λ b. cond b (Some faults.Long) (cond (not (is_end raw)) (Some faults.NoEnd) (fault_of-rest r raw))) (short_line raw fits)
    ∙ ap (λ b. cond (not b) (Some faults.NoEnd) (fault_of-rest r raw)) no_end

pub next-long : (r : Reading) (line : List ℕ) → is_over r.stage ≡ false → 512 < length line → next r line ≡ at_stage (Refused faults.Long) r
next-long r line going long =
    ap (λ b. cond b r (after_test r (fault_of r false line) (line_in line))) going ∙ ap (λ f. after_test r f (line_in line)) (fault_of-long r false line long)

cut_end-no : (part : List ℕ) → is_end part ≡ false → cut_end part ≡ []
cut_end-no part no_end = ap (λ b. cond b (part ∷ []) []) no_end

-- bytes that begin with too long a line
ends_long-by : (r : Reading) (front bytes : List ℕ) → is_over r.stage ≡ false → 512 < length front → BeginsLine front bytes ⊎ BeginsPart front bytes
    → EndsAt r (refusal (r.lines + 1) faults.Long) bytes
ends_long-by r front bytes going long (inl begins) =
    let line = front ++ begins.more in
    let longer : 512 < length line = omega (arith, length-append front begins.more) in
    let stops = next-long r line going longer in
    let first = ap (λ ls. ls ++ cut_end (last_part bytes)) begins.is in
    let ends = ends_where_first r bytes line (begins.rest ++ cut_end (last_part bytes)) faults.Long first (ap (λ (t : Reading). t.stage) stops) in
    subst (λ n. EndsAt r (refusal n faults.Long) bytes) (ap (λ (t : Reading). t.lines) stops) ends
ends_long-by r front bytes going long (inr begins) =
    let part = front ++ begins.more in
    let longer : 512 < length part = omega (arith, length-append front begins.more) in
    let none = ap (λ ls. ls ++ cut_end (last_part bytes)) begins.none ∙ ap cut_end begins.is ∙ cut_end-no part (long_is_no_end part longer) in
    ends_without r bytes part faults.Long going none begins.is (fault_of-long r true part longer)

pub ends_long : (r : Reading) (front bytes : List ℕ) → is_over r.stage ≡ false → HasNoLineFeed front → length front ≡ 513
    → EndsAt r (refusal (r.lines + 1) faults.Long) (front ++ bytes)
ends_long r front bytes going none long = ends_long-by r front (front ++ bytes) going (omega arith) (front-parts front bytes none)

-- bytes without a line feed that are no end
pub ends_cut : (r : Reading) (part : List ℕ) → is_over r.stage ≡ false → HasNoLineFeed part → length part ≤ 512 → is_end part ≡ false
    → EndsAt r (refusal (r.lines + 1) faults.NoEnd) part
ends_cut r part going none fits no_end =
    ends_without r part part faults.NoEnd going (lines_of-none part none ∙ cut_end-no part no_end) (last_part-none part none) (fault_of-cut r part fits no_end)

-- whole lines before change nothing but the reading
pub ends_after : (r : Reading) (lines : List (List ℕ)) (why : LineRefusal) (bytes : List ℕ) → AllByRecursion HasNoLineFeed lines → events_of r lines ≡ []
    → EndsAt (after r lines) why bytes → EndsAt r why (unlines lines ++ bytes)
ends_after r lines why bytes each quiet ends =
    let cut = lines_of-unlines lines bytes each in
    record {
      events = ap (events_of r) cut ∙ outputs_of-append next events_of_line r lines (lines_of bytes) ∙ ap (λ es. es ++ events_in (after r lines) bytes) quiet ∙ ends.events;
      fault = ap (λ ls. refused_where (after r ls) (last_part (unlines lines ++ bytes))) cut
          ∙ ap (refused_where (after r (lines ++ lines_of bytes))) (last_part-unlines lines bytes each)
          ∙ ap (λ t. refused_where t (last_part bytes)) (run_of-append next events_of_line r lines (lines_of bytes)) ∙ ends.fault;
    }
