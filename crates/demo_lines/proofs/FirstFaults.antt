-- A recording is refused for the first of its lines that has a fault.
use Rattle.std.proofs.Common.{◌≡◌, ℕ, ◌+◌, ◌<◌, Bool, true, false, not, List, [], ◌∷◌, ◌++◌, length, Option, Some, None, IsSome, Result, Ok, Err, option_map, cond, refl, sym, ap, ◌∙◌, subst, arith, append_assoc}
use Rattle.std.specs.List.{slice_split}
use Rattle.std.proofs.lemmas.Bool.Decides.{nat_tests}
use Rattle.edge_io.specs.WholeLines.{is_line_feed, all_but_last}
use Rattle.edge_io.proofs.Feeds.{BeginsWith, parts_begin, all_but_last-append}
use Rattle.demo_lines.specs.declared.stage.Stage.TheVariants.{Refused}
use Rattle.demo_lines.specs.declared.line.Line.{Line}
use Rattle.demo_lines.specs.declared.line.Line.TheVariants.{OfMap, Frame, From, End}
use Rattle.demo_lines.specs.declared.line_fault.LineFault.{LineFault}
use Rattle.demo_lines.specs.declared.line_fault.LineFault.TheVariants as faults
use Rattle.demo_lines.specs.Known.{Reading, start, is_over, at_stage}
use Rattle.demo_lines.specs.Lines.{text_of, first_word, rest_of, is_end, line_in}
use Rattle.demo_lines.specs.Faults.{is_long, has_strange_byte, fault_of_words, fault_of}
use Rattle.demo_lines.specs.Recording.{next, after_test, events_of_line, after}
use Rattle.demo_lines.specs.Said.{line_said}
use Rattle.demo_lines.specs.Bytes.{LineRefusal, refusal, refused_where, last_of, cut_end, fault}
use Rattle.demo_lines.specs.Laws.{are_none, IsFirstFault, FaultsAreTheFirst}
use Rattle.demo_lines.proofs.Machines.{run_of-append}
use Rattle.demo_lines.proofs.OnePass.{fault_said, fault-said, line-said}
use Rattle.demo_lines.proofs.Ends.{after-over, next-counts, fault_of-long, refused_at-open, refused_where-after}
use Rattle.demo_lines.proofs.Prefixes.{after_end}

-- ---- a line without a fault says something

-- one that one pass reads without a fault
read_says : (r : Reading) (raw : List ℕ) (said : Result Line LineFault) → line_said r.stage raw ≡ said → fault_said r said ≡ None → IsSome (line_in raw)
read_says r raw (Ok line) is none = subst IsSome (sym (line-said r.stage raw line is)) refl
read_says r raw (Err why) is none = cc

faultless_says : (r : Reading) (raw : List ℕ) (long : Bool) → is_long raw ≡ long → fault_of r false raw ≡ None → IsSome (line_in raw)
faultless_says r raw true is none =
    let far : 512 < length raw = grind (arith, nat_tests) in
    let has : fault_of r false raw ≡ Some faults.Long = fault_of-long r false raw far in
    cc
faultless_says r raw false is none = read_says r raw (line_said r.stage raw) refl (sym (fault-said r raw is) ∙ none)

-- ---- a line that the recording is over after

-- the refusal is that of this fault
record IsRefusalOf (found : Option LineFault) (line : ℕ) (why : LineRefusal) : Type 0 where
  fault : LineFault
  holds : found ≡ Some fault
  is : why ≡ refusal line fault

refusal_of : (r : Reading) (over : Bool) (found : Option LineFault) (line : Option Line) (part : List ℕ) (why : LineRefusal) → over ≡ false
    → (found ≡ None → IsSome line) → is_over (cond over r (after_test r found line)).stage ≡ true
    → refused_where (cond over r (after_test r found line)) part ≡ Some why → IsRefusalOf found (r.lines + 1) why
refusal_of r true found line part why going says over refused = cc
refusal_of r false (Some fault) line part why going says over refused = record { fault = fault; holds = refl; is = cc }
refusal_of r false None None part why going says over refused = let none = says refl in cc
refusal_of r false None (Some (OfMap line)) part why going says over refused = cc
refusal_of r false None (Some Frame) part why going says over refused = cc
refusal_of r false None (Some (From a)) part why going says over refused = cc
refusal_of r false None (Some End) part why going says over refused = cc

line_refused : (r : Reading) (raw part : List ℕ) (why : LineRefusal) → is_over r.stage ≡ false → is_over (next r raw).stage ≡ true
    → refused_where (next r raw) part ≡ Some why → IsRefusalOf (fault_of r false raw) (r.lines + 1) why
line_refused r raw part why going over refused =
    refusal_of r (is_over r.stage) (fault_of r false raw) (line_in raw) part why going (faultless_says r raw (is_long raw) refl) over refused

-- what the input ended with, where it is no line
part_refused : (r : Reading) (part : List ℕ) (why : LineRefusal) (found : Option LineFault) → option_map (refusal (r.lines + 1)) found ≡ Some why
    → IsRefusalOf found (r.lines + 1) why
part_refused r part why None refused = cc
part_refused r part why (Some fault) refused = record { fault = fault; holds = refl; is = cc }

-- an end has the same fault, whether the input ends in it or not
fault_of-end : (r : Reading) (raw : List ℕ) → is_end raw ≡ true → fault_of r true raw ≡ fault_of r false raw
fault_of-end r raw end =
    let rest = cond (has_strange_byte raw) (Some faults.Byte) (fault_of_words r (first_word (text_of raw)) (rest_of (text_of raw))) in
    ap (λ b. cond (is_long raw) (Some faults.Long) (cond (not b) (Some faults.NoEnd) rest)) end

-- ---- parts that line feeds separate

-- the lines of these parts
abbrev lines_in : List (List ℕ) → List (List ℕ)
lines_in parts = all_but_last parts ++ cut_end (last_of parts)

-- the first of them that has a fault, from what was read before
record IsFirstIn (r : Reading) (parts : List (List ℕ)) (why : LineRefusal) : Type 0 where
  before : List (List ℕ)
  raw : List ℕ
  later : List (List ℕ)
  parts_are : parts ≡ before ++ raw ∷ later
  going : is_over (after r before).stage ≡ false
  fault : LineFault
  holds : fault_of (after r before) (are_none later) raw ≡ Some fault
  is : why ≡ refusal (r.lines + length before + 1) fault

here_first : (r : Reading) (raw : List ℕ) (later : List (List ℕ)) (why : LineRefusal) → is_over r.stage ≡ false
    → IsRefusalOf (fault_of r (are_none later) raw) (r.lines + 1) why → IsFirstIn r (raw ∷ later) why
here_first r raw later why going of =
    let number : r.lines + 1 ≡ r.lines + length {A = List ℕ} [] + 1 = omega arith in
    record {
      before = [];
      raw = raw;
      later = later;
      parts_are = refl;
      going = going;
      fault = of.fault;
      holds = of.holds;
      is = of.is ∙ ap (λ n. refusal n of.fault) number;
    }

later_first : (r : Reading) (part : List ℕ) (parts : List (List ℕ)) (why : LineRefusal) → is_over r.stage ≡ false → IsFirstIn (next r part) parts why → IsFirstIn r (part ∷ parts) why
later_first r part parts why going first =
    let number : (next r part).lines + length first.before + 1 ≡ r.lines + length (part ∷ first.before) + 1 = omega (arith, next-counts r part going) in
    record {
      before = part ∷ first.before;
      raw = first.raw;
      later = first.later;
      parts_are = ap (λ ps. part ∷ ps) first.parts_are;
      going = first.going;
      fault = first.fault;
      holds = first.holds;
      is = first.is ∙ ap (λ n. refusal n first.fault) number;
    }

last_first : (r : Reading) (part : List ℕ) (why : LineRefusal) (end : Bool) → is_end part ≡ end → is_over r.stage ≡ false
    → refused_where (after r (cond end (part ∷ []) [])) part ≡ Some why → IsFirstIn r (part ∷ []) why
last_first r part why true is going refused =
    let of = line_refused r part part why going (after_end r part is) refused in
    here_first r part [] why going (subst (λ f. IsRefusalOf f (r.lines + 1) why) (sym (fault_of-end r part is)) of)
last_first r part why false is going refused =
    here_first r part [] why going (part_refused r part why (fault_of r true part) (sym (refused_at-open r.stage r part going) ∙ refused))

first_in : (r : Reading) (parts : List (List ℕ)) (why : LineRefusal) → BeginsWith parts → is_over r.stage ≡ false
    → refused_where (after r (lines_in parts)) (last_of parts) ≡ Some why → IsFirstIn r parts why
first_in r [] why begins going refused = cc (begins.is)
first_in r (part ∷ []) why begins going refused = last_first r part why (is_end part) refl going refused
first_in r (part ∷ other ∷ parts) why begins going refused =
    by (is_over (next r part).stage) refl (λ on. first_in (next r part) (other ∷ parts) why (record { first = other; rest = parts; is = refl }) on refused)
  where
    by : (over : Bool) → is_over (next r part).stage ≡ over → (is_over (next r part).stage ≡ false → IsFirstIn (next r part) (other ∷ parts) why)
        → IsFirstIn r (part ∷ other ∷ parts) why
    by false is more = later_first r part (other ∷ parts) why going (more is)
    by true is more =
        let still : after (next r part) (lines_in (other ∷ parts)) ≡ next r part = after-over (next r part) (lines_in (other ∷ parts)) is in
        let here : refused_where (next r part) (last_of (other ∷ parts)) ≡ Some why = ap (λ t. refused_where t (last_of (other ∷ parts))) (sym still) ∙ refused in
        here_first r part (other ∷ parts) why going (line_refused r part (last_of (other ∷ parts)) why going is here)

-- ---- the other way round

faulty-next : (r : Reading) (raw : List ℕ) (why : LineFault) → is_over r.stage ≡ false → fault_of r false raw ≡ Some why → next r raw ≡ at_stage (Refused why) r
faulty-next r raw why going has =
    ap (λ b. cond b r (after_test r (fault_of r false raw) (line_in raw))) going ∙ ap (λ f. after_test r f (line_in raw)) has

-- lines that a recording isn't over after are counted, and it wasn't over before them
record Counts (r : Reading) (lines : List (List ℕ)) : Type 0 where
  going : is_over r.stage ≡ false
  counted : (after r lines).lines ≡ r.lines + length lines

counts : (r : Reading) (lines : List (List ℕ)) → is_over (after r lines).stage ≡ false → Counts r lines
counts r [] going = record { going = going; counted = omega arith }
counts r (line ∷ lines) going = by (is_over r.stage) refl (counts (next r line) lines going)
  where
    by : (over : Bool) → is_over r.stage ≡ over → Counts (next r line) lines → Counts r (line ∷ lines)
    by true over rest =
        let same : is_over (after r (line ∷ lines)).stage ≡ true = ap (λ (t : Reading). is_over t.stage) (after-over r (line ∷ lines) over) ∙ over in
        cc
    by false here rest = record { going = here; counted = omega (arith, rest.counted, next-counts r line here) }

last_of-append : (xs : List (List ℕ)) (y : List ℕ) (ys : List (List ℕ)) → last_of (xs ++ y ∷ ys) ≡ last_of (y ∷ ys)
last_of-append [] y ys = refl
last_of-append (x ∷ []) y ys = refl
last_of-append (x ∷ z ∷ xs) y ys = last_of-append (z ∷ xs) y ys

lines_in-append : (xs : List (List ℕ)) (y : List ℕ) (ys : List (List ℕ)) → lines_in (xs ++ y ∷ ys) ≡ xs ++ lines_in (y ∷ ys)
lines_in-append xs y ys =
    ap (λ ls. ls ++ cut_end (last_of (xs ++ y ∷ ys))) (all_but_last-append xs y ys)
    ∙ ap (λ part. (xs ++ all_but_last (y ∷ ys)) ++ cut_end part) (last_of-append xs y ys)
    ∙ append_assoc xs (all_but_last (y ∷ ys)) (cut_end (last_of (y ∷ ys)))

refuses_last : (r : Reading) (raw : List ℕ) (why : LineFault) (end : Bool) → is_end raw ≡ end → is_over r.stage ≡ false → fault_of r true raw ≡ Some why
    → refused_where (after r (cond end (raw ∷ []) [])) raw ≡ Some (refusal (r.lines + 1) why)
refuses_last r raw why true is going has =
    ap (λ t. refused_where t raw) (faulty-next r raw why going (sym (fault_of-end r raw is) ∙ has))
refuses_last r raw why false is going has = refused_at-open r.stage r raw going ∙ ap (option_map (refusal (r.lines + 1))) has

-- the part after which the first fault is is refused
refuses_here : (r : Reading) (raw : List ℕ) (later : List (List ℕ)) (why : LineFault) → is_over r.stage ≡ false → fault_of r (are_none later) raw ≡ Some why
    → refused_where (after r (lines_in (raw ∷ later))) (last_of (raw ∷ later)) ≡ Some (refusal (r.lines + 1) why)
refuses_here r raw [] why going has = refuses_last r raw why (is_end raw) refl going has
refuses_here r raw (other ∷ later) why going has =
    let stops = faulty-next r raw why going has in
    refused_where-after (next r raw) (lines_in (other ∷ later)) (last_of (other ∷ later)) why (ap (λ (t : Reading). t.stage) stops)
    ∙ ap (λ (t : Reading). Some (refusal t.lines why)) stops

is_refused_first : (bytes : List ℕ) (why : LineRefusal) → IsFirstFault bytes why → fault bytes ≡ Some why
is_refused_first bytes why first =
    let t = after start first.before in
    let parts = first.raw ∷ first.later in
    let number : t.lines + 1 ≡ length first.before + 1 = omega (arith, (counts start first.before first.going).counted) in
    ap (λ ps. refused_where (after start (lines_in ps)) (last_of ps)) first.parts
    ∙ ap (λ ls. refused_where (after start ls) (last_of (first.before ++ parts))) (lines_in-append first.before first.raw first.later)
    ∙ ap (refused_where (after start (first.before ++ lines_in parts))) (last_of-append first.before first.raw first.later)
    ∙ ap (λ u. refused_where u (last_of parts)) (run_of-append next events_of_line start first.before (lines_in parts))
    ∙ refuses_here t first.raw first.later first.fault first.going first.holds
    ∙ ap (λ n. Some (refusal n first.fault)) number
    ∙ ap Some (sym first.is)

is_first : (bytes : List ℕ) (why : LineRefusal) → fault bytes ≡ Some why → IsFirstFault bytes why
is_first bytes why refused =
    let first = first_in start (slice_split is_line_feed bytes) why (parts_begin bytes) refl refused in
    let number : 0 + length first.before + 1 ≡ length first.before + 1 = omega arith in
    record {
      before = first.before;
      raw = first.raw;
      later = first.later;
      parts = first.parts_are;
      going = first.going;
      fault = first.fault;
      holds = first.holds;
      is = first.is ∙ ap (λ n. refusal n first.fault) number;
    }

pub faults_are_the_first : FaultsAreTheFirst
faults_are_the_first bytes why = (is_first bytes why, is_refused_first bytes why)
