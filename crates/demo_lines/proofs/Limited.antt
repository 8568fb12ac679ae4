-- A recording with a limit on its frames, and the same bytes with another limit.
use Rattle.std.proofs.Common.{◌≡◌, ℕ, ◌+◌, ◌≤◌, Bool, true, false, not, nat_le, List, [], ◌∷◌, ◌++◌, Option, Some, None, option_map, codes, refl, sym, ap, ◌∙◌, cond, arith, count_by}
use Rattle.std.specs.Option.{option_or}
use Rattle.std.proofs.lemmas.Bool.Decides.{nat_tests}
use Rattle.std.proofs.lemmas.List.Sums.{sum_by-append}
use Rattle.arena_map.specs.declared.limits.TheConstants.{MOST_FRAMES}
use Rattle.demo_lines.specs.declared.stage.Stage.{Stage}
use Rattle.demo_lines.specs.declared.stage.Stage.TheVariants.{Start, Map, Playing, Ended, Refused}
use Rattle.demo_lines.specs.declared.line.Line.{Line}
use Rattle.demo_lines.specs.declared.line.Line.TheVariants.{OfMap, Frame, From, End}
use Rattle.demo_lines.specs.declared.line_fault.LineFault.{LineFault}
use Rattle.demo_lines.specs.declared.line_fault.LineFault.TheVariants as faults
use Rattle.demo_lines.specs.declared.word.Word as word_types
use Rattle.demo_lines.specs.declared.word.Word.TheVariants as words
use Rattle.demo_lines.specs.declared.event.Event.{Event}
use Rattle.demo_lines.specs.Known.{Reading, start_within, start, is_over, is_refused, at_stage}
use Rattle.demo_lines.specs.Words.{has_form, is_allowed}
use Rattle.demo_lines.specs.Lines.{text_of, first_word, rest_of, is_end, line_of_first, line_in}
use Rattle.demo_lines.specs.Faults.{is_long, is_cut, has_strange_byte, is_out_of_limit, broken_by, has_no_packet, is_one_too_many, fault_after_word, fault_of_words, fault_of}
use Rattle.demo_lines.specs.Recording.{next, after_line, after_test, event_of, opens_frame, events_of_test, events_of_line, after, events_of}
use Rattle.demo_lines.specs.Bytes.{LineRefusal, refusal, refused_at, refused_where, last_part, lines_of, fault_within, fault, events}
use Rattle.demo_lines.specs.Laws.{IsSameRecording, LimitsCutNothing}
use Rattle.demo_lines.proofs.Prefixes.{bytes_eq-same}
use Rattle.demo_lines.proofs.Ends.{next-over, events_of_line-over, after-over, over_refused}

-- what is known, with another limit
abbrev limited : ℕ → Reading → Reading
limited limit r = record { stage = r.stage; map = r.map; limit = limit; frames = r.frames; arrivals = r.arrivals; lines = r.lines }

-- ---- the fault of a line

-- a frame that isn't one too many isn't with the other limit, where the line is one
abbrev FitsToo : ℕ → Reading → List ℕ → Type 0
FitsToo limit r raw = first_word (text_of raw) ≡ Some words.Frame → nat_le r.limit r.frames ≡ false → nat_le limit r.frames ≡ false

broken_by-limited : (limit : ℕ) (r : Reading) (word : word_types.Word) (rest : List ℕ) → broken_by (limited limit r) word rest ≡ broken_by r word rest
broken_by-limited limit r (words.OfMap word) rest = refl
broken_by-limited limit r words.Frame rest = refl
broken_by-limited limit r words.From rest = refl
broken_by-limited limit r words.End rest = refl

fits-limited : (limit : ℕ) (r : Reading) (word : word_types.Word) → (word ≡ words.Frame → nat_le r.limit r.frames ≡ false → nat_le limit r.frames ≡ false)
    → is_one_too_many r word ≡ false → is_one_too_many (limited limit r) word ≡ false
fits-limited limit r (words.OfMap word) fits none = refl
fits-limited limit r words.Frame fits none = fits refl none
fits-limited limit r words.From fits none = none
fits-limited limit r words.End fits none = refl

-- the tests 4 to 9 in a row, where only the last one may change
none_still : (form place limit packet many many' : Bool) (rule : Option LineFault) → (many ≡ false → many' ≡ false)
    → cond form (Some faults.Form) (cond place (Some faults.NotAllowed) (cond limit (Some faults.Limit) (option_or rule (cond packet (Some faults.Packet) (cond many (Some faults.Count) None))))) ≡ None
    → cond form (Some faults.Form) (cond place (Some faults.NotAllowed) (cond limit (Some faults.Limit) (option_or rule (cond packet (Some faults.Packet) (cond many' (Some faults.Count) None))))) ≡ None
none_still true place limit packet many many' rule kept is = cc
none_still false true limit packet many many' rule kept is = cc
none_still false false true packet many many' rule kept is = cc
none_still false false false packet many many' (Some why) kept is = cc
none_still false false false true many many' None kept is = cc
none_still false false false false true many' None kept is = cc
none_still false false false false false many' None kept is = ap (λ (b : Bool). cond b (Some faults.Count) None) (kept refl)

after_word-limited : (limit : ℕ) (r : Reading) (word : word_types.Word) (rest : List ℕ) → (word ≡ words.Frame → nat_le r.limit r.frames ≡ false → nat_le limit r.frames ≡ false)
    → fault_after_word r word rest ≡ None → fault_after_word (limited limit r) word rest ≡ None
after_word-limited limit r word rest fits is =
    let still = none_still (not (has_form word rest)) (not (is_allowed r.stage word)) (is_out_of_limit word rest) (has_no_packet word rest) (is_one_too_many r word) (is_one_too_many (limited limit r) word)
    (option_map faults.Rule (broken_by r word rest)) (fits-limited limit r word fits) is in
    ap (λ (o : _). cond (not (has_form word rest)) (Some faults.Form) (cond (not (is_allowed r.stage word)) (Some faults.NotAllowed) (cond (is_out_of_limit word rest) (Some faults.Limit)
    (option_or (option_map faults.Rule o) (cond (has_no_packet word rest) (Some faults.Packet) (cond (is_one_too_many (limited limit r) word) (Some faults.Count) None)))))) (broken_by-limited limit r word rest)
    ∙ still

words-limited : (limit : ℕ) (r : Reading) (word : Option word_types.Word) (rest : List ℕ) → (word ≡ Some words.Frame → nat_le r.limit r.frames ≡ false → nat_le limit r.frames ≡ false)
    → fault_of_words r word rest ≡ None → fault_of_words (limited limit r) word rest ≡ None
words-limited limit r None rest fits is = cc
words-limited limit r (Some word) rest fits is = after_word-limited limit r word rest (λ same. fits (ap Some same)) is

first_tests : (long cut strange : Bool) (o o' : Option LineFault) → (o ≡ None → o' ≡ None)
    → cond long (Some faults.Long) (cond cut (Some faults.NoEnd) (cond strange (Some faults.Byte) o)) ≡ None
    → cond long (Some faults.Long) (cond cut (Some faults.NoEnd) (cond strange (Some faults.Byte) o')) ≡ None
first_tests true cut strange o o' kept is = cc
first_tests false true strange o o' kept is = cc
first_tests false false true o o' kept is = cc
first_tests false false false o o' kept is = kept is

-- a line without a fault has none with the other limit
fault_of-limited : (limit : ℕ) (r : Reading) (ended : Bool) (raw : List ℕ) → FitsToo limit r raw → fault_of r ended raw ≡ None → fault_of (limited limit r) ended raw ≡ None
fault_of-limited limit r ended raw fits is =
    first_tests (is_long raw) (is_cut ended raw) (has_strange_byte raw) (fault_of_words r (first_word (text_of raw)) (rest_of (text_of raw)))
    (fault_of_words (limited limit r) (first_word (text_of raw)) (rest_of (text_of raw)))
    (words-limited limit r (first_word (text_of raw)) (rest_of (text_of raw)) fits) is

-- ---- a line

record KeepsLine (limit : ℕ) (r : Reading) (raw : List ℕ) : Type 0 where
  next_is : next (limited limit r) raw ≡ limited limit (next r raw)
  events_are : events_of_line (limited limit r) raw ≡ events_of_line r raw

after_line-limited : (limit : ℕ) (r : Reading) (line : Option Line) → after_line (limited limit r) line ≡ limited limit (after_line r line)
after_line-limited limit r None = refl
after_line-limited limit r (Some (OfMap line)) = refl
after_line-limited limit r (Some Frame) = refl
after_line-limited limit r (Some (From a)) = refl
after_line-limited limit r (Some End) = refl

-- a line that isn't refused leaves the same with the other limit, and gives the same events
line-limited : (limit : ℕ) (r : Reading) (raw : List ℕ) → FitsToo limit r raw → is_refused (next r raw).stage ≡ false → KeepsLine limit r raw
line-limited limit r raw fits taken = go (is_over r.stage) (fault_of r false raw) refl refl
  where
    go : (over : Bool) (why : Option LineFault) → is_over r.stage ≡ over → fault_of r false raw ≡ why → KeepsLine limit r raw
    go true why over is = record {
      next_is = next-over (limited limit r) raw over ∙ ap (limited limit) (sym (next-over r raw over));
      events_are = events_of_line-over (limited limit r) raw over ∙ sym (events_of_line-over r raw over);
    }
    go false (Some why) over is =
        let here : next r raw ≡ at_stage (Refused why) r = ap (λ (b : Bool). cond b r (after_test r (fault_of r false raw) (line_in raw))) over ∙ ap (λ (o : Option LineFault). after_test r o (line_in raw)) is in
        let refused : is_refused (next r raw).stage ≡ true = ap (λ (x : Reading). is_refused x.stage) here in
        cc
    go false None over is =
        let still = fault_of-limited limit r false raw fits is in
        let here : next r raw ≡ after_line r (line_in raw) = ap (λ (b : Bool). cond b r (after_test r (fault_of r false raw) (line_in raw))) over ∙ ap (λ (o : Option LineFault). after_test r o (line_in raw)) is in
        let there : next (limited limit r) raw ≡ after_line (limited limit r) (line_in raw) =
        ap (λ (b : Bool). cond b (limited limit r) (after_test (limited limit r) (fault_of (limited limit r) false raw) (line_in raw))) over
        ∙ ap (λ (o : Option LineFault). after_test (limited limit r) o (line_in raw)) still in
        let events_here : events_of_line r raw ≡ event_of (line_in raw) = ap (λ (b : Bool). cond b [] (events_of_test (fault_of r false raw) (line_in raw))) over ∙ ap (λ (o : Option LineFault). events_of_test o (line_in raw)) is in
        let events_there : events_of_line (limited limit r) raw ≡ event_of (line_in raw) =
        ap (λ (b : Bool). cond b [] (events_of_test (fault_of (limited limit r) false raw) (line_in raw))) over ∙ ap (λ (o : Option LineFault). events_of_test o (line_in raw)) still in
        record {
          next_is = there ∙ after_line-limited limit r (line_in raw) ∙ ap (limited limit) (sym here);
          events_are = events_there ∙ sym events_here;
        }

-- ---- lines

-- after a refused line nothing more is taken
first_is_taken : (r : Reading) (raw : List ℕ) (lines : List (List ℕ)) → is_refused (after r (raw ∷ lines)).stage ≡ false → is_refused (next r raw).stage ≡ false
first_is_taken r raw lines taken = go (is_refused (next r raw).stage) refl
  where
    go : (b : Bool) → is_refused (next r raw).stage ≡ b → is_refused (next r raw).stage ≡ false
    go false is = is
    go true is =
        let stays : after (next r raw) lines ≡ next r raw = after-over (next r raw) lines (over_refused (next r raw).stage is) in
        let refused : is_refused (after r (raw ∷ lines)).stage ≡ true = ap (λ (x : Reading). is_refused x.stage) stays ∙ is in
        cc

-- a line leaves the limit, and opens a frame at most
record Advances (r s : Reading) : Type 0 where
  limit_is : s.limit ≡ r.limit
  frames_rise : r.frames ≤ s.frames

test-advances : (r : Reading) (over : Bool) (why : Option LineFault) (line : Option Line) → Advances r (cond over r (after_test r why line))
test-advances r true why line = record { limit_is = refl; frames_rise = omega arith }
test-advances r false (Some why) line = record { limit_is = refl; frames_rise = omega arith }
test-advances r false None None = record { limit_is = refl; frames_rise = omega arith }
test-advances r false None (Some (OfMap line)) = record { limit_is = refl; frames_rise = omega arith }
test-advances r false None (Some Frame) = record { limit_is = refl; frames_rise = omega arith }
test-advances r false None (Some (From a)) = record { limit_is = refl; frames_rise = omega arith }
test-advances r false None (Some End) = record { limit_is = refl; frames_rise = omega arith }

next-advances : (r : Reading) (raw : List ℕ) → Advances r (next r raw)
next-advances r raw = test-advances r (is_over r.stage) (fault_of r false raw) (line_in raw)

after-advances : (r : Reading) (lines : List (List ℕ)) → Advances r (after r lines)
after-advances r [] = record { limit_is = refl; frames_rise = omega arith }
after-advances r (raw ∷ lines) =
    let one = next-advances r raw in
    let more = after-advances (next r raw) lines in
    record { limit_is = more.limit_is ∙ one.limit_is; frames_rise = omega (arith, one.frames_rise, more.frames_rise) }

record KeepsLines (limit : ℕ) (r : Reading) (lines : List (List ℕ)) : Type 0 where
  after_is : after (limited limit r) lines ≡ limited limit (after r lines)
  events_are : events_of (limited limit r) lines ≡ events_of r lines

lines-kept : (limit : ℕ) (r : Reading) (raw : List ℕ) (lines : List (List ℕ)) → KeepsLine limit r raw → KeepsLines limit (next r raw) lines → KeepsLines limit r (raw ∷ lines)
lines-kept limit r raw lines one more = record {
  after_is = ap (λ (x : Reading). after x lines) one.next_is ∙ more.after_is;
  events_are = (λ i. one.events_are i ++ events_of (one.next_is i) lines) ∙ ap (λ (es : List Event). events_of_line r raw ++ es) more.events_are;
}

-- a higher limit
lines-raised : (limit : ℕ) (r : Reading) (lines : List (List ℕ)) → r.limit ≤ limit → is_refused (after r lines).stage ≡ false → KeepsLines limit r lines
lines-raised limit r [] higher taken = record { after_is = refl; events_are = refl }
lines-raised limit r (raw ∷ lines) higher taken =
    let one = line-limited limit r raw (λ frame few. grind (arith, nat_tests)) (first_is_taken r raw lines taken) in
    let same = (next-advances r raw).limit_is in
    lines-kept limit r raw lines one (lines-raised limit (next r raw) lines (omega (arith, same)) taken)

-- an accepted frame line counts
frame_counts : (r : Reading) (raw : List ℕ) → is_over r.stage ≡ false → is_refused (next r raw).stage ≡ false → first_word (text_of raw) ≡ Some words.Frame → (next r raw).frames ≡ r.frames + 1
frame_counts r raw going taken frame = go (fault_of r false raw) refl
  where
    says : line_in raw ≡ Some Frame
    says = ap (λ (o : Option word_types.Word). line_of_first o (rest_of (text_of raw))) frame

    go : (why : Option LineFault) → fault_of r false raw ≡ why → (next r raw).frames ≡ r.frames + 1
    go (Some why) is =
        let here : next r raw ≡ at_stage (Refused why) r = ap (λ (b : Bool). cond b r (after_test r (fault_of r false raw) (line_in raw))) going ∙ ap (λ (o : Option LineFault). after_test r o (line_in raw)) is in
        let refused : is_refused (next r raw).stage ≡ true = ap (λ (x : Reading). is_refused x.stage) here in
        cc
    go None is =
        let here : next r raw ≡ after_line r (line_in raw) = ap (λ (b : Bool). cond b r (after_test r (fault_of r false raw) (line_in raw))) going ∙ ap (λ (o : Option LineFault). after_test r o (line_in raw)) is in
        ap (λ (x : Reading). x.frames) (here ∙ ap (after_line r) says)

-- a lower limit that the frames keep to
lines-lowered : (limit : ℕ) (r : Reading) (lines : List (List ℕ)) → (after r lines).frames ≤ limit → is_refused (after r lines).stage ≡ false → KeepsLines limit r lines
lines-lowered limit r [] few taken = record { after_is = refl; events_are = refl }
lines-lowered limit r (raw ∷ lines) few taken =
    let first = first_is_taken r raw lines taken in
    lines-kept limit r raw lines (one (is_over r.stage) refl first) (lines-lowered limit (next r raw) lines few taken)
  where
    one : (over : Bool) → is_over r.stage ≡ over → is_refused (next r raw).stage ≡ false → KeepsLine limit r raw
    one true over first = record {
      next_is = next-over (limited limit r) raw over ∙ ap (limited limit) (sym (next-over r raw over));
      events_are = events_of_line-over (limited limit r) raw over ∙ sym (events_of_line-over r raw over);
    }
    one false going first =
        let later = (after-advances (next r raw) lines).frames_rise in
        line-limited limit r raw
        (λ frame none.
        let counts = frame_counts r raw going first frame in
        let room : r.frames + 1 ≤ limit = omega (arith, counts, later, few) in
        grind (arith, nat_tests))
        first

-- ---- the end of the bytes

no_refusal : (f : LineFault → LineRefusal) (o : Option LineFault) → option_map f o ≡ None → o ≡ None
no_refusal f None is = refl
no_refusal f (Some why) is = cc

end_is_no_frame : (raw : List ℕ) (r : Reading) → fault_of r true raw ≡ None → first_word (text_of raw) ≡ Some words.Frame → ⊥
end_is_no_frame raw r is frame = go (is_long raw) (is_end raw) refl is
  where
    go : (long end : Bool) → is_end raw ≡ end
        → cond long (Some faults.Long) (cond (not end) (Some faults.NoEnd) (cond (has_strange_byte raw) (Some faults.Byte) (fault_of_words r (first_word (text_of raw)) (rest_of (text_of raw))))) ≡ None → ⊥
    go true end at none = cc
    go false false at none = cc
    go false true at none =
        let text : text_of raw ≡ codes "end" = bytes_eq-same (text_of raw) (codes "end") at in
        let word : Some words.Frame ≡ Some words.End = sym frame ∙ ap first_word text in
        cc

taken_at : (stage : Stage) (r : Reading) (part : List ℕ) → refused_at stage r part ≡ None → is_refused stage ≡ false
taken_at Start r part is = refl
taken_at Map r part is = refl
taken_at Playing r part is = refl
taken_at Ended r part is = refl
taken_at (Refused why) r part is = cc

-- at the end of the bytes there is no fault with the other limit
open_end : (limit : ℕ) (r : Reading) (part : List ℕ) → option_map (refusal (r.lines + 1)) (fault_of r true part) ≡ None → option_map (refusal (r.lines + 1)) (fault_of (limited limit r) true part) ≡ None
open_end limit r part is =
    let none = no_refusal (refusal (r.lines + 1)) (fault_of r true part) is in
    ap (option_map (refusal (r.lines + 1))) (fault_of-limited limit r true part (λ frame few. absurd (end_is_no_frame part r none frame)) none)

end-limited : (limit : ℕ) (stage : Stage) (r : Reading) (part : List ℕ) → refused_at stage r part ≡ None → refused_at stage (limited limit r) part ≡ None
end-limited limit Start r part is = open_end limit r part is
end-limited limit Map r part is = open_end limit r part is
end-limited limit Playing r part is = open_end limit r part is
end-limited limit Ended r part is = refl
end-limited limit (Refused why) r part is = cc

-- ---- recordings

same_recording : (limit : ℕ) (bytes : List ℕ) → limit ≤ MOST_FRAMES → fault_within limit bytes ≡ None → IsSameRecording limit bytes
same_recording limit bytes lower none =
    let r = start_within limit in
    let at = after r (lines_of bytes) in
    let taken = taken_at at.stage at (last_part bytes) none in
    let kept = lines-raised MOST_FRAMES r (lines_of bytes) lower taken in
    record {
      accepted = ap (λ (x : Reading). refused_where x (last_part bytes)) kept.after_is ∙ end-limited MOST_FRAMES at.stage at (last_part bytes) none;
      map = ap (λ (x : Reading). x.map) kept.after_is;
      events = kept.events_are;
    }

count-append : (es more : List Event) → count_by opens_frame (es ++ more) ≡ count_by opens_frame es + count_by opens_frame more
count-append es more = sum_by-append (λ (e : Event). cond (opens_frame e) 1 0) es more

-- as many frames are counted as are opened
frames-counted : (r : Reading) (lines : List (List ℕ)) → (after r lines).frames ≡ r.frames + count_by opens_frame (events_of r lines)
frames-counted r [] = omega arith
frames-counted r (raw ∷ lines) =
    let more = frames-counted (next r raw) lines in
    let one = line_counted (is_over r.stage) (fault_of r false raw) (line_in raw) in
    let all = count-append (events_of_line r raw) (events_of (next r raw) lines) in
    omega (arith, more, one, all)
  where
    line_counted : (over : Bool) (why : Option LineFault) (line : Option Line)
        → (cond over r (after_test r why line)).frames ≡ r.frames + count_by opens_frame (cond over [] (events_of_test why line))
    line_counted true why line = omega arith
    line_counted false (Some why) line = omega arith
    line_counted false None None = omega arith
    line_counted false None (Some (OfMap line)) = omega arith
    line_counted false None (Some Frame) = omega arith
    line_counted false None (Some (From a)) = omega arith
    line_counted false None (Some End) = omega arith

few_enough : (limit : ℕ) (bytes : List ℕ) → fault bytes ≡ None → count_by opens_frame (events bytes) ≤ limit → fault_within limit bytes ≡ None
few_enough limit bytes none few =
    let at = after start (lines_of bytes) in
    let taken = taken_at at.stage at (last_part bytes) none in
    let count = frames-counted start (lines_of bytes) in
    let kept = lines-lowered limit start (lines_of bytes) (omega (arith, count, few)) taken in
    ap (λ (x : Reading). refused_where x (last_part bytes)) kept.after_is ∙ end-limited limit at.stage at (last_part bytes) none

pub limits_cut_nothing : LimitsCutNothing
limits_cut_nothing = record { same = same_recording; few = few_enough }
