-- Once the map is whole, the lines are read as well without it; and how events keep or complete it.
use Rattle.std.proofs.Common.{◌≡◌, ℕ, ◌<◌, Bool, true, false, nat_le, List, [], ◌∷◌, ◌++◌, length, Option, Some, None, Result, Ok, Err, IfOk, IsSome, option_map, cond, refl, sym, ap, ◌∙◌, subst, arith}
use Rattle.std.specs.Option.{option_or}
use Rattle.std.proofs.lemmas.Bool.Decides.{nat_tests}
use Rattle.edge_io.specs.Numbers.{natural_up_to}
use Rattle.arena_map.specs.declared.map_line.MapLine.{MapLine}
use Rattle.arena_map.specs.declared.map_fault.MapFault.TheVariants as rules
use Rattle.arena_map.specs.MapLines.{IsWithinLimits}
use Rattle.demo_lines.specs.declared.stage.Stage.{Stage}
use Rattle.demo_lines.specs.declared.stage.Stage.TheVariants.{Start, Map, Playing, Ended, Refused}
use Rattle.demo_lines.specs.declared.word.Word.{Word}
use Rattle.demo_lines.specs.declared.word.Word.TheVariants as words
use Rattle.demo_lines.specs.declared.line.Line.{Line}
use Rattle.demo_lines.specs.declared.line.Line.TheVariants.{OfMap, Frame, From, End}
use Rattle.demo_lines.specs.declared.line_fault.LineFault.{LineFault}
use Rattle.demo_lines.specs.declared.line_fault.LineFault.TheVariants as faults
use Rattle.demo_lines.specs.Packets.{packet_bytes}
use Rattle.demo_lines.specs.Known.{Reading, without_map, is_map_whole, is_over, is_refused, at_stage}
use Rattle.demo_lines.specs.Words.{is_nothing, is_allowed, is_first, from_fields}
use Rattle.demo_lines.specs.Lines.{text_of, are_printable, first_word, rest_of, line_in}
use Rattle.demo_lines.specs.Faults.{is_long, has_spawn, fault_of}
use Rattle.demo_lines.specs.Recording.{next, after_test, events_of_test, events_of_line, after, events_of}
use Rattle.demo_lines.specs.Said.{of_map, map_line_said, packet_said, port_said, from_said, first_said, line_said, stage_fault, after_said}
use Rattle.demo_lines.specs.Readings.{IsReading, IsOfMap, IsAllowedAt, HasMap}
use Rattle.demo_lines.specs.Reads.{KeepsMap}
use Rattle.demo_lines.specs.Laws.{NothingNeedsTheMap, MemoryIsForTheMap}
use Rattle.demo_lines.proofs.Ends.{next-over, next-long, events_of_line-over, fault_of-long}
use Rattle.demo_lines.proofs.OnePass.{next-said, fault-said, fault_said}
use Rattle.demo_lines.proofs.MapWords.{if_ok-placed}
use Rattle.demo_lines.proofs.Taking.{IsTaken, if_ok-taken}

-- ---- what is said may be taken

of_map-taken : (stage : Stage) (said : Result MapLine LineFault) → IfOk said (λ line. IsWithinLimits line × IsOfMap stage line) → IfOk (of_map said) (IsAllowedAt stage)
of_map-taken stage (Ok line) is = is
of_map-taken stage (Err why) is = tt

bare-taken : (stage : Stage) (form here : Bool) (line : Line) → (here ≡ true → IsAllowedAt stage line)
    → IfOk (cond form (cond here (Ok line) (Err faults.NotAllowed)) (Err faults.Form)) (IsAllowedAt stage)
bare-taken stage false here line is = tt
bare-taken stage true false line is = tt
bare-taken stage true true line is = is refl

packet-taken : (stage : Stage) (bytes : Option (List ℕ)) (port : ℕ) → is_allowed stage words.From ≡ true → IfOk (packet_said bytes port) (IsAllowedAt stage)
packet-taken stage None port here = tt
packet-taken stage (Some bytes) port here = here

port-taken : (stage : Stage) (port : Option ℕ) (packet : List ℕ) → is_allowed stage words.From ≡ true → IfOk (port_said port packet) (IsAllowedAt stage)
port-taken stage None packet here = tt
port-taken stage (Some port) packet here = packet-taken stage (packet_bytes packet) port here

allowed-taken : (stage : Stage) (here : Bool) (said : Result Line LineFault) → (here ≡ true → IfOk said (IsAllowedAt stage)) → IfOk (cond here said (Err faults.NotAllowed)) (IsAllowedAt stage)
allowed-taken stage true said is = is refl
allowed-taken stage false said is = tt

from-taken : (stage : Stage) (fields : Option (List ℕ × List ℕ)) → IfOk (from_said stage fields) (IsAllowedAt stage)
from-taken stage None = tt
from-taken stage (Some fields) =
    allowed-taken stage (is_allowed stage words.From) (port_said (natural_up_to 65535 fields.0) fields.1) (port-taken stage (natural_up_to 65535 fields.0) fields.1)

first-taken : (stage : Stage) (first : Option Word) (rest : List ℕ) → IfOk (first_said stage first rest) (IsAllowedAt stage)
first-taken stage None rest = tt
first-taken stage (Some (words.OfMap word)) rest = of_map-taken stage (map_line_said stage word rest) (if_ok-placed stage word rest (map_line_said stage word rest) refl)
first-taken stage (Some words.Frame) rest = bare-taken stage (is_nothing rest) (is_allowed stage words.Frame) Frame (λ here. here)
first-taken stage (Some words.From) rest = from-taken stage (from_fields rest)
first-taken stage (Some words.End) rest = bare-taken stage (is_nothing rest) (is_allowed stage words.End) End (λ here. here)

text-taken : (stage : Stage) (printable : Bool) (first : Option Word) (rest : List ℕ) → IfOk (cond printable (first_said stage first rest) (Err faults.Byte)) (IsAllowedAt stage)
text-taken stage true first rest = first-taken stage first rest
text-taken stage false first rest = tt

pub line_said-placed : (stage : Stage) (raw : List ℕ) → IfOk (line_said stage raw) (IsAllowedAt stage)
line_said-placed stage raw = text-taken stage (are_printable (text_of raw)) (first_word (text_of raw)) (rest_of (text_of raw))

pub line_said-taken : (stage : Stage) (raw : List ℕ) → IfOk (line_said stage raw) (IsTaken stage)
line_said-taken stage raw = if_ok-taken stage (line_said stage raw) (line_said-placed stage raw)

-- ---- one more line, whatever it is

-- after any line: it is ignored, too long, or says something or has a fault of its own
module _ (P : Reading → Reading → Type 0) (over : (r : Reading) → is_over r.stage ≡ true → P r r)
    (long : (r : Reading) → is_over r.stage ≡ false → P r (at_stage (Refused faults.Long) r))
    (said : (r : Reading) (said : Result Line LineFault) → is_over r.stage ≡ false → IfOk said (IsAllowedAt r.stage) → P r (after_said r said)) where
  by_length : (r : Reading) (raw : List ℕ) (b : Bool) → is_over r.stage ≡ false → is_long raw ≡ b → P r (next r raw)
  by_length r raw true going is = let far : 512 < length raw = grind (arith, nat_tests) in subst (P r) (sym (next-long r raw going far)) (long r going)
  by_length r raw false going is = subst (P r) (sym (next-said r raw going is)) (said r (line_said r.stage raw) going (line_said-placed r.stage raw))

  by_stage : (r : Reading) (raw : List ℕ) (b : Bool) → is_over r.stage ≡ b → P r (next r raw)
  by_stage r raw true is = subst (P r) (sym (next-over r raw is)) (over r is)
  by_stage r raw false is = by_length r raw (is_long raw) is refl

  pub after_any_line : (r : Reading) (raw : List ℕ) → P r (next r raw)
  after_any_line r raw = by_stage r raw (is_over r.stage) refl

-- ---- the map stays

-- a whole map is kept, and stays whole
record Stays (r s : Reading) : Type 0 where
  whole : is_map_whole r.stage ≡ true → is_map_whole s.stage ≡ true
  kept : is_map_whole r.stage ≡ true → s.map ≡ r.map

of_map-none : (stage : Stage) (line : MapLine) (A : Type 0) → is_map_whole stage ≡ true → IsOfMap stage line → A
of_map-none Start line A whole is = cc
of_map-none Map line A whole is = cc
of_map-none Playing line A whole is = absurd is
of_map-none Ended line A whole is = absurd is
of_map-none (Refused why) line A whole is = absurd is

test-stays : (r : Reading) (fault : Option LineFault) (line : Line) → IsAllowedAt r.stage line → Stays r (after_test r fault (Some line))
test-stays r (Some why) line is = record { whole = λ h. refl; kept = λ h. refl }
test-stays r None (OfMap line) is = record { whole = λ h. of_map-none r.stage line _ h is.1; kept = λ h. of_map-none r.stage line _ h is.1 }
test-stays r None Frame is = record { whole = λ h. refl; kept = λ h. refl }
test-stays r None (From a) is = record { whole = λ h. refl; kept = λ h. refl }
test-stays r None End is = record { whole = λ h. refl; kept = λ h. refl }

said-stays : (r : Reading) (said : Result Line LineFault) → is_over r.stage ≡ false → IfOk said (IsAllowedAt r.stage) → Stays r (after_said r said)
said-stays r (Ok line) going is = test-stays r (stage_fault r line) line is
said-stays r (Err why) going is = record { whole = λ h. refl; kept = λ h. refl }

stays : (r : Reading) (raw : List ℕ) → Stays r (next r raw)
stays r raw =
    after_any_line Stays (λ s over. record { whole = λ h. h; kept = λ h. refl }) (λ s going. record { whole = λ h. refl; kept = λ h. refl }) said-stays r raw

pub after-whole : (r : Reading) (lines : List (List ℕ)) → is_map_whole r.stage ≡ true → is_map_whole (after r lines).stage ≡ true
after-whole r [] whole = whole
after-whole r (line ∷ lines) whole = after-whole (next r line) lines ((stays r line).whole whole)

pub after-kept : (r : Reading) (lines : List (List ℕ)) → is_map_whole r.stage ≡ true → (after r lines).map ≡ r.map
after-kept r [] whole = refl
after-kept r (line ∷ lines) whole = after-kept (next r line) lines ((stays r line).whole whole) ∙ (stays r line).kept whole

-- ---- without the map

frame-fault : (r : Reading) (b : Bool) → is_map_whole r.stage ≡ true → stage_fault (without_map r) Frame ≡ stage_fault r Frame
frame-fault r b whole =
    let Fault : Bool → Bool → Option LineFault = λ w there.
    option_or (option_map faults.Rule (cond w None (cond there None (Some rules.NoSpawn)))) (cond (nat_le r.limit r.frames) (Some faults.Count) None) in
    ap (λ w. Fault w false) whole ∙ sym (ap (λ w. Fault w (has_spawn r.map)) whole)

test-without : (r : Reading) (fault : Option LineFault) (line : Line) → IsAllowedAt r.stage line → is_map_whole r.stage ≡ true
    → after_test (without_map r) fault (Some line) ≡ without_map (after_test r fault (Some line))
test-without r (Some why) line is whole = refl
test-without r None (OfMap line) is whole = of_map-none r.stage line _ whole is.1
test-without r None Frame is whole = refl
test-without r None (From a) is whole = refl
test-without r None End is whole = refl

same-fault : (r : Reading) (line : Line) → IsAllowedAt r.stage line → is_map_whole r.stage ≡ true → stage_fault (without_map r) line ≡ stage_fault r line
same-fault r (OfMap line) is whole = of_map-none r.stage line _ whole is.1
same-fault r Frame is whole = frame-fault r true whole
same-fault r (From a) is whole = refl
same-fault r End is whole = refl

said-without : (r : Reading) (said : Result Line LineFault) → IfOk said (IsAllowedAt r.stage) → is_map_whole r.stage ≡ true
    → after_said (without_map r) said ≡ without_map (after_said r said)
said-without r (Ok line) is whole = ap (λ f. after_test (without_map r) f (Some line)) (same-fault r line is whole) ∙ test-without r (stage_fault r line) line is whole
said-without r (Err why) is whole = refl

-- what is known, and the fault of the line
pub record SameWithout (r : Reading) (raw : List ℕ) : Type 0 where
  pub reached : next (without_map r) raw ≡ without_map (next r raw)
  pub fault : is_over r.stage ≡ false → fault_of (without_map r) false raw ≡ fault_of r false raw

fault-without : (r : Reading) (said : Result Line LineFault) → IfOk said (IsAllowedAt r.stage) → is_map_whole r.stage ≡ true → fault_said (without_map r) said ≡ fault_said r said
fault-without r (Ok line) is whole = same-fault r line is whole
fault-without r (Err why) is whole = refl

without-long : (r : Reading) (raw : List ℕ) (b : Bool) → is_map_whole r.stage ≡ true → is_over r.stage ≡ false → is_long raw ≡ b → SameWithout r raw
without-long r raw true whole going is =
    let far : 512 < length raw = grind (arith, nat_tests) in
    record {
      reached = next-long (without_map r) raw going far ∙ ap without_map (sym (next-long r raw going far));
      fault = λ h. fault_of-long (without_map r) false raw far ∙ sym (fault_of-long r false raw far);
    }
without-long r raw false whole going is =
    let taken = line_said-placed r.stage raw in
    record {
      reached = next-said (without_map r) raw going is ∙ said-without r (line_said r.stage raw) taken whole ∙ ap without_map (sym (next-said r raw going is));
      fault = λ h. fault-said (without_map r) raw is ∙ fault-without r (line_said r.stage raw) taken whole ∙ sym (fault-said r raw is);
    }

without-over : (r : Reading) (raw : List ℕ) (b : Bool) → is_map_whole r.stage ≡ true → is_over r.stage ≡ b → SameWithout r raw
without-over r raw true whole is = record {
  reached = next-over (without_map r) raw is ∙ ap without_map (sym (next-over r raw is));
  fault = λ going. cc;
}
without-over r raw false whole is = without-long r raw (is_long raw) whole is refl

pub same_without : (r : Reading) (raw : List ℕ) → is_map_whole r.stage ≡ true → SameWithout r raw
same_without r raw whole = without-over r raw (is_over r.stage) whole refl

pub next-without : (r : Reading) (raw : List ℕ) → is_map_whole r.stage ≡ true → next (without_map r) raw ≡ without_map (next r raw)
next-without r raw whole = (same_without r raw whole).reached

events-by : (r : Reading) (raw : List ℕ) (b : Bool) → is_map_whole r.stage ≡ true → is_over r.stage ≡ b → events_of_line (without_map r) raw ≡ events_of_line r raw
events-by r raw true whole is = events_of_line-over (without_map r) raw is ∙ sym (events_of_line-over r raw is)
events-by r raw false whole is = ap (λ f. cond (is_over r.stage) [] (events_of_test f (line_in raw))) ((same_without r raw whole).fault is)

pub nothing_needs_the_map : NothingNeedsTheMap
nothing_needs_the_map r [] whole = record { reached = refl; events = refl }
nothing_needs_the_map r (line ∷ lines) whole =
    let more = nothing_needs_the_map (next r line) lines ((stays r line).whole whole) in
    let one = next-without r line whole in
    record {
      reached = ap (λ t. after t lines) one ∙ more.reached;
      events = ap (λ es. es ++ events_of (next (without_map r) line) lines) (events-by r line (is_over r.stage) whole refl)
          ∙ ap (λ t. events_of_line r line ++ events_of t lines) one
          ∙ ap (λ es. events_of_line r line ++ es) more.events;
    }

-- ---- how lines keep or complete the map

-- a map that was whole is kept, and one that becomes whole is there
pub record MapSoFar (old new : Reading) : Type 0 where
  pub whole : is_map_whole old.stage ≡ true → is_map_whole new.stage ≡ true
  pub kept : is_map_whole old.stage ≡ true → new.map ≡ old.map
  pub there : is_map_whole old.stage ≡ false → is_map_whole new.stage ≡ true → IsSome new.map

-- after a line that isn't refused a whole map is there
record IsThere (r s : Reading) : Type 0 where
  there : HasMap r.stage r → is_map_whole r.stage ≡ false → is_refused s.stage ≡ false → is_map_whole s.stage ≡ true → IsSome s.map

map-there : (stage : Stage) (r : Reading) → is_map_whole stage ≡ false → HasMap stage r → (stage ≡ Start → ⊥) → IsSome r.map
map-there Start r h has not_first = absurd (not_first refl)
map-there Map r h has not_first = has.0
map-there Playing r h has not_first = cc
map-there Ended r h has not_first = cc
map-there (Refused why) r h has not_first = cc

started : (word : Word) → is_first word ≡ false → (stage : Stage) → is_allowed stage word ≡ true → stage ≡ Start → ⊥
started word later Start here is = cc
started word later Map here is = cc
started word later Playing here is = cc
started word later Ended here is = cc
started word later (Refused why) here is = cc

test-there : (r : Reading) (fault : Option LineFault) (line : Line) → IsAllowedAt r.stage line → IsThere r (after_test r fault (Some line))
test-there r (Some why) line is = record { there = λ has h fine whole. cc }
test-there r None (OfMap line) is = record { there = λ has h fine whole. cc }
test-there r None Frame is = record { there = λ has h fine whole. map-there r.stage r h has (started words.Frame refl r.stage is) }
test-there r None (From a) is = record { there = λ has h fine whole. map-there r.stage r h has (started words.From refl r.stage is) }
test-there r None End is = record { there = λ has h fine whole. map-there r.stage r h has (started words.End refl r.stage is) }

said-there : (r : Reading) (said : Result Line LineFault) → is_over r.stage ≡ false → IfOk said (IsAllowedAt r.stage) → IsThere r (after_said r said)
said-there r (Ok line) going is = test-there r (stage_fault r line) line is
said-there r (Err why) going is = record { there = λ has h fine whole. cc }

line-there : (r : Reading) (raw : List ℕ) → IsThere r (next r raw)
line-there r raw =
    after_any_line IsThere (λ s over. record { there = λ has h fine whole. cc }) (λ s going. record { there = λ has h fine whole. cc }) said-there r raw

whole_or : (A : Type 0) (b : Bool) → (b ≡ true → A) → (b ≡ false → A) → A
whole_or A true f g = f refl
whole_or A false f g = g refl

-- one more line that isn't refused
so_far-next : (r s : Reading) (line : List ℕ) → MapSoFar r s → IsReading s → is_refused (next s line).stage ≡ false → MapSoFar r (next s line)
so_far-next r s line so holds fine = record {
  whole = λ h. (stays s line).whole (so.whole h);
  kept = λ h. (stays s line).kept (so.whole h) ∙ so.kept h;
  there = λ h w. whole_or (IsSome (next s line).map) (is_map_whole s.stage)
      (λ before. subst IsSome (sym ((stays s line).kept before)) (so.there h before))
      (λ before. (line-there s line).there holds.map before fine w);
}

pub so_far-line : (r s t : Reading) (line : List ℕ) → MapSoFar r s → IsReading s → t ≡ next s line → is_refused t.stage ≡ false → MapSoFar r t
so_far-line r s t line so holds is fine =
    subst (MapSoFar r) (sym is) (so_far-next r s line so holds (ap (λ (u : Reading). is_refused u.stage) (sym is) ∙ fine))

pub keeps_map : (r t : Reading) → MapSoFar r t → is_map_whole t.stage ≡ true → KeepsMap r t
keeps_map r t so whole = record { kept = so.kept; completed = λ h. so.there h whole }

-- a line of the map comes only before it is whole
pub memory_is_for_the_map : MemoryIsForTheMap
memory_is_for_the_map r before later whole reads =
    let there : is_map_whole (after r reads.lines).stage ≡ true = after-whole r reads.lines whole in
    let not_yet : is_map_whole (after r reads.lines).stage ≡ false = ap is_map_whole reads.of_map in
    cc
