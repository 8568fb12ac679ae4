-- Bytes after bytes: what they add.
use Rattle.std.proofs.Common.{◌≡◌, ℕ, Bool, true, false, not, ◌==◌, List, [], ◌∷◌, ◌++◌, Option, Some, None, option_map, codes, bytes_eq, cond, refl, sym, ap, ◌∙◌, arith, append_assoc, append-nil}
use Rattle.std.specs.List.{slice_split, onto_first}
use Rattle.std.proofs.lemmas.Bool.Decides.{nat_tests}
use Rattle.std.proofs.lemmas.Bool.{and_parts}
use Rattle.demo_lines.specs.declared.stage.Stage.{Stage}
use Rattle.demo_lines.specs.declared.stage.Stage.TheVariants.{Start, Map, Playing, Ended, Refused}
use Rattle.demo_lines.specs.declared.line.Line.{Line}
use Rattle.demo_lines.specs.declared.line.Line.TheVariants.{End}
use Rattle.demo_lines.specs.declared.line_fault.LineFault.{LineFault}
use Rattle.demo_lines.specs.declared.line_fault.LineFault.TheVariants as faults
use Rattle.demo_lines.specs.Known.{Reading, start, is_over, is_refused}
use Rattle.demo_lines.specs.Lines.{text_of, first_word, rest_of, is_end, line_in, line_of_first}
use Rattle.demo_lines.specs.Faults.{is_long, has_strange_byte, fault_of_words, fault_of}
use Rattle.demo_lines.specs.Recording.{next, after_test, events_of_line, after, events_of}
use Rattle.edge_io.specs.WholeLines.{is_line_feed, all_but_last, whole_lines}
use Rattle.demo_lines.specs.Bytes.{last_of, last_part, cut_end, lines_of, refusal, refused_at, refused_where, fault}
use Rattle.demo_lines.specs.Laws.{AddsNothing, NothingAfterTheEnd}
use Rattle.demo_lines.proofs.Machines.{run_of-append, outputs_of-append}
use Rattle.edge_io.proofs.Feeds.{BeginsWith, parts_begin, all_but_last-append}
use Rattle.demo_lines.proofs.Ends.{after-over, events_of-over, over_refused}

-- these lines, and then more
record Extends (lines longer : List (List ℕ)) : Type 0 where
  more : List (List ℕ)
  is : longer ≡ lines ++ more

extends-nil : (longer : List (List ℕ)) → Extends [] longer
extends-nil longer = record { more = longer; is = refl }

-- one more byte in front of both
extends-byte : (stop : Bool) (b : ℕ) (parts longer : List (List ℕ)) → BeginsWith parts → BeginsWith longer → Extends (all_but_last parts) (all_but_last longer)
    → Extends (all_but_last (cond stop ([] ∷ parts) (onto_first b parts))) (all_but_last (cond stop ([] ∷ longer) (onto_first b longer)))
extends-byte stop b [] longer begins begins_longer extends = cc (begins.is)
extends-byte stop b (p ∷ parts) [] begins begins_longer extends = cc (begins_longer.is)
extends-byte true b (p ∷ parts) (q ∷ longer) begins begins_longer extends = record { more = extends.more; is = ap (λ ls. [] ∷ ls) extends.is }
extends-byte false b (p ∷ []) (q ∷ longer) begins begins_longer extends = extends-nil _
extends-byte false b (p ∷ r ∷ parts) (q ∷ []) begins begins_longer extends = let no = extends.is in cc
extends-byte false b (p ∷ r ∷ parts) (q ∷ s ∷ longer) begins begins_longer extends =
    record { more = extends.more; is = ap (onto_first b) extends.is }

-- the whole lines stay, and more may follow them
whole_lines-more : (bytes more : List ℕ) → Extends (whole_lines bytes) (whole_lines (bytes ++ more))
whole_lines-more [] more = extends-nil (whole_lines more)
whole_lines-more (b ∷ bytes) more =
    extends-byte (is_line_feed b) b (slice_split is_line_feed bytes) (slice_split is_line_feed (bytes ++ more))
    (parts_begin bytes) (parts_begin (bytes ++ more)) (whole_lines-more bytes more)

-- the lines of more bytes begin with the whole lines of these
lines_of-more : (bytes more : List ℕ) → Extends (whole_lines bytes) (lines_of (bytes ++ more))
lines_of-more bytes more =
    let longer = whole_lines-more bytes more in
    let rest = cut_end (last_part (bytes ++ more)) in
    record { more = longer.more ++ rest; is = ap (λ ls. ls ++ rest) longer.is ∙ append_assoc (whole_lines bytes) longer.more rest }

-- ---- where the rest is ignored

pub refused_at-over : (stage : Stage) (r : Reading) (p q : List ℕ) → is_over stage ≡ true → refused_at stage r p ≡ refused_at stage r q
refused_at-over Start r p q over = cc
refused_at-over Map r p q over = cc
refused_at-over Playing r p q over = cc
refused_at-over Ended r p q over = refl
refused_at-over (Refused why) r p q over = refl

-- after lines that the recording is over after
record Over (lines longer : List (List ℕ)) : Type 0 where
  reached : after start longer ≡ after start lines
  events : events_of start longer ≡ events_of start lines

over-more : (lines longer : List (List ℕ)) → Extends lines longer → is_over (after start lines).stage ≡ true → Over lines longer
over-more lines longer extends over =
    let here = after start lines in
    record {
      reached = ap (after start) extends.is ∙ run_of-append next events_of_line start lines extends.more ∙ after-over here extends.more over;
      events = ap (events_of start) extends.is ∙ outputs_of-append next events_of_line start lines extends.more
          ∙ ap (λ es. events_of start lines ++ es) (events_of-over here extends.more over) ∙ append-nil (events_of start lines);
    }

-- where two recordings have such lines in common
adds_nothing : (bytes more : List ℕ) (lines : List (List ℕ)) → Extends lines (lines_of bytes) → Extends lines (lines_of (bytes ++ more))
    → is_over (after start lines).stage ≡ true → AddsNothing bytes more
adds_nothing bytes more lines short long over =
    let one = over-more lines (lines_of bytes) short over in
    let other = over-more lines (lines_of (bytes ++ more)) long over in
    let same : after start (lines_of (bytes ++ more)) ≡ after start (lines_of bytes) = other.reached ∙ sym one.reached in
    let still : is_over (after start (lines_of bytes)).stage ≡ true = ap (λ (r : Reading). is_over r.stage) one.reached ∙ over in
    record {
      events = other.events ∙ sym one.events;
      fault = ap (λ r. refused_where r (last_part (bytes ++ more))) same
          ∙ refused_at-over (after start (lines_of bytes)).stage (after start (lines_of bytes)) (last_part (bytes ++ more)) (last_part bytes) still;
      map = ap (λ (r : Reading). r.map) same;
    }

after_whole_lines : (bytes more : List ℕ) → is_over (after start (whole_lines bytes)).stage ≡ true → AddsNothing bytes more
after_whole_lines bytes more over =
    adds_nothing bytes more (whole_lines bytes) (record { more = cut_end (last_part bytes); is = refl }) (lines_of-more bytes more) over

pub nothing_after_a_refusal : (bytes more : List ℕ) → is_refused (after start (whole_lines bytes)).stage ≡ true → AddsNothing bytes more
nothing_after_a_refusal bytes more refused = after_whole_lines bytes more (over_refused (after start (whole_lines bytes)).stage refused)

-- ---- a line feed after what no line feed ends

onto_first-append : (b : ℕ) (parts more : List (List ℕ)) → BeginsWith parts → onto_first b (parts ++ more) ≡ onto_first b parts ++ more
onto_first-append b [] more begins = cc (begins.is)
onto_first-append b (part ∷ parts) more begins = refl

split-byte : (stop : Bool) (b : ℕ) (parts more : List (List ℕ)) → BeginsWith parts
    → cond stop ([] ∷ parts ++ more) (onto_first b (parts ++ more)) ≡ cond stop ([] ∷ parts) (onto_first b parts) ++ more
split-byte true b parts more begins = refl
split-byte false b parts more begins = onto_first-append b parts more begins

-- a line feed ends the last part, and the parts of the rest follow
split-feed : (bytes more : List ℕ) → slice_split is_line_feed (bytes ++ 10 ∷ more) ≡ slice_split is_line_feed bytes ++ slice_split is_line_feed more
split-feed [] more = refl
split-feed (b ∷ bytes) more =
    ap (λ parts. cond (is_line_feed b) ([] ∷ parts) (onto_first b parts)) (split-feed bytes more)
    ∙ split-byte (is_line_feed b) b (slice_split is_line_feed bytes) (slice_split is_line_feed more) (parts_begin bytes)

parts-last : (part : List ℕ) (parts : List (List ℕ)) → part ∷ parts ≡ all_but_last (part ∷ parts) ++ last_of (part ∷ parts) ∷ []
parts-last part [] = refl
parts-last part (other ∷ parts) = ap (λ ps. part ∷ ps) (parts-last other parts)

begun-last : (parts : List (List ℕ)) → BeginsWith parts → parts ≡ all_but_last parts ++ last_of parts ∷ []
begun-last [] begins = cc (begins.is)
begun-last (part ∷ parts) begins = parts-last part parts

but_last : (parts more : List (List ℕ)) → BeginsWith parts → BeginsWith more → all_but_last (parts ++ more) ≡ all_but_last parts ++ last_of parts ∷ all_but_last more
but_last parts more begins begins_more =
    ap (λ ms. all_but_last (parts ++ ms)) begins_more.is
    ∙ all_but_last-append parts begins_more.first begins_more.rest
    ∙ ap (λ ms. parts ++ all_but_last ms) (sym begins_more.is)
    ∙ ap (λ ps. ps ++ all_but_last more) (begun-last parts begins)
    ∙ append_assoc (all_but_last parts) (last_of parts ∷ []) (all_but_last more)

whole_lines-feed : (bytes more : List ℕ) → whole_lines (bytes ++ 10 ∷ more) ≡ whole_lines bytes ++ last_part bytes ∷ whole_lines more
whole_lines-feed bytes more =
    ap all_but_last (split-feed bytes more)
    ∙ but_last (slice_split is_line_feed bytes) (slice_split is_line_feed more) (parts_begin bytes) (parts_begin more)

-- the lines of the bytes are the first of them, where an end was cut
cut-extends : (bytes more : List ℕ) → is_end (last_part bytes) ≡ true → Extends (lines_of bytes) (lines_of (bytes ++ 10 ∷ more))
cut-extends bytes more end =
    let part = last_part bytes in
    let rest = cut_end (last_part (bytes ++ 10 ∷ more)) in
    let short : lines_of bytes ≡ whole_lines bytes ++ part ∷ [] = ap (λ b. whole_lines bytes ++ cond b (part ∷ []) []) end in
    record {
      more = whole_lines more ++ rest;
      is = ap (λ ls. ls ++ rest) (whole_lines-feed bytes more)
          ∙ append_assoc (whole_lines bytes) (part ∷ whole_lines more) rest
          ∙ sym (append_assoc (whole_lines bytes) (part ∷ []) (whole_lines more ++ rest))
          ∙ ap (λ ls. ls ++ (whole_lines more ++ rest)) (sym short);
    }

pub no_refusal : (o : Option LineFault) (line : ℕ) → option_map (refusal line) o ≡ None → o ≡ None
no_refusal None line h = refl
no_refusal (Some why) line h = cc

over_without_fault : (stage : Stage) (r : Reading) (part : List ℕ) → (fault_of r true part ≡ None → ⊥) → refused_at stage r part ≡ None → is_over stage ≡ true
over_without_fault Start r part some none = absurd (some (no_refusal (fault_of r true part) _ none))
over_without_fault Map r part some none = absurd (some (no_refusal (fault_of r true part) _ none))
over_without_fault Playing r part some none = absurd (some (no_refusal (fault_of r true part) _ none))
over_without_fault Ended r part some none = refl
over_without_fault (Refused why) r part some none = cc

-- what isn't an end and isn't ended by a line feed has a fault
cut_has_fault : (long : Bool) (rest : Option LineFault) → cond long (Some faults.Long) (cond true (Some faults.NoEnd) rest) ≡ None → ⊥
cut_has_fault true rest h = cc
cut_has_fault false rest h = cc

cut_fault : (r : Reading) (part : List ℕ) → is_end part ≡ false → fault_of r true part ≡ None → ⊥
cut_fault r part no_end none =
    let rest = cond (has_strange_byte part) (Some faults.Byte) (fault_of_words r (first_word (text_of part)) (rest_of (text_of part))) in
    let shown : fault_of r true part ≡ cond (is_long part) (Some faults.Long) (Some faults.NoEnd) = ap (λ b. cond (is_long part) (Some faults.Long) (cond (not b) (Some faults.NoEnd) rest)) no_end in
    cut_has_fault (is_long part) rest (sym shown ∙ none)

pub bytes_eq-same : (xs ys : List ℕ) → bytes_eq xs ys ≡ true → xs ≡ ys
bytes_eq-same [] [] h = refl
bytes_eq-same [] (y ∷ ys) h = cc
bytes_eq-same (x ∷ xs) [] h = cc
bytes_eq-same (x ∷ xs) (y ∷ ys) h =
    let same : x ≡ y = grind (arith, nat_tests, (and_parts (x == y) (bytes_eq xs ys) h).0) in
    ap (λ z. z ∷ xs) same ∙ ap (λ zs. y ∷ zs) (bytes_eq-same xs ys (and_parts (x == y) (bytes_eq xs ys) h).1)

pub end_says : (raw : List ℕ) → is_end raw ≡ true → line_in raw ≡ Some End
end_says raw end = ap (λ text. line_of_first (first_word text) (rest_of text)) (bytes_eq-same (text_of raw) (codes "end") end)

-- after a line that is an end the recording is over
end_is_over : (s : Reading) (over : Bool) (fault : Option LineFault) (line : Option Line) → line ≡ Some End → is_over s.stage ≡ over
    → is_over (cond over s (after_test s fault line)).stage ≡ true
end_is_over s true fault line is here = here
end_is_over s false (Some why) line is here = refl
end_is_over s false None line is here = ap (λ l. is_over (after_test s None l).stage) is

pub after_end : (s : Reading) (raw : List ℕ) → is_end raw ≡ true → is_over (next s raw).stage ≡ true
after_end s raw end = end_is_over s (is_over s.stage) (fault_of s false raw) (line_in raw) (end_says raw end) refl

pub after_last : (r : Reading) (lines : List (List ℕ)) (raw : List ℕ) → is_end raw ≡ true → is_over (after r (lines ++ raw ∷ [])).stage ≡ true
after_last r lines raw end =
    ap (λ (t : Reading). is_over t.stage) (run_of-append next events_of_line r lines (raw ∷ [])) ∙ after_end (after r lines) raw end

after_cut : (bytes more : List ℕ) (b : Bool) → is_end (last_part bytes) ≡ b → fault bytes ≡ None → AddsNothing bytes (10 ∷ more)
after_cut bytes more true end none =
    let short : lines_of bytes ≡ whole_lines bytes ++ last_part bytes ∷ [] = ap (λ b. whole_lines bytes ++ cond b (last_part bytes ∷ []) []) end in
    adds_nothing bytes (10 ∷ more) (lines_of bytes) (record { more = []; is = sym (append-nil (lines_of bytes)) }) (cut-extends bytes more end)
    (ap (λ ls. is_over (after start ls).stage) short ∙ after_last start (whole_lines bytes) (last_part bytes) end)
after_cut bytes more false end none =
    let lines : lines_of bytes ≡ whole_lines bytes = ap (λ b. whole_lines bytes ++ cond b (last_part bytes ∷ []) []) end ∙ append-nil (whole_lines bytes) in
    let none_there : refused_where (after start (whole_lines bytes)) (last_part bytes) ≡ None = ap (λ ls. refused_where (after start ls) (last_part bytes)) (sym lines) ∙ none in
    after_whole_lines bytes (10 ∷ more)
    (over_without_fault (after start (whole_lines bytes)).stage (after start (whole_lines bytes)) (last_part bytes) (cut_fault (after start (whole_lines bytes)) (last_part bytes) end) none_there)

pub nothing_after_the_end : NothingAfterTheEnd
nothing_after_the_end = record {
  whole = λ bytes more ended. after_whole_lines bytes more (ap is_over ended);
  cut = λ bytes more none. after_cut bytes more (is_end (last_part bytes)) refl none;
}

-- ---- without a fault

over-by : (bytes : List ℕ) (end : Bool) → is_end (last_part bytes) ≡ end → fault bytes ≡ None → is_over (after start (lines_of bytes)).stage ≡ true
over-by bytes true end none =
    let short : lines_of bytes ≡ whole_lines bytes ++ last_part bytes ∷ [] = ap (λ b. whole_lines bytes ++ cond b (last_part bytes ∷ []) []) end in
    ap (λ ls. is_over (after start ls).stage) short ∙ after_last start (whole_lines bytes) (last_part bytes) end
over-by bytes false end none =
    let here = after start (lines_of bytes) in over_without_fault here.stage here (last_part bytes) (cut_fault here (last_part bytes) end) none

-- a recording without a fault is over after its lines
pub faultless_is_over : (bytes : List ℕ) → fault bytes ≡ None → is_over (after start (lines_of bytes)).stage ≡ true
faultless_is_over bytes none = over-by bytes (is_end (last_part bytes)) refl none
