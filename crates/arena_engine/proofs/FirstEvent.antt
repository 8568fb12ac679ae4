-- Only the last of the lines up to the first event gives one.
use Rattle.std.proofs.Common.{◌≡◌, ℕ, ◌<◌, Bool, true, false, List, [], ◌∷◌, ◌++◌, length, Result, Ok, Err, IfOk, refl, sym, ap, ◌∙◌, arith}
use Rattle.std.specs.Result.{result_ok}
use Rattle.std.proofs.lemmas.Bool.Decides.{nat_tests}
use Rattle.edge_io.specs.WholeLines.{all_but_last}
use Rattle.arena_map.specs.declared.map_line.MapLine.{MapLine}
use Rattle.demo_lines.specs.declared.stage.Stage.{Stage}
use Rattle.demo_lines.specs.declared.stage.Stage.TheVariants.{Start, Map, Playing, Ended, Refused}
use Rattle.demo_lines.specs.declared.event.Event.{Event}
use Rattle.demo_lines.specs.declared.line.Line.{Line}
use Rattle.demo_lines.specs.declared.line.Line.TheVariants.{OfMap, Frame, From, End}
use Rattle.demo_lines.specs.declared.line_fault.LineFault.{LineFault}
use Rattle.demo_lines.specs.Known.{Reading, is_map_whole, is_over, is_refused}
use Rattle.demo_lines.specs.Faults.{is_long}
use Rattle.demo_lines.specs.Readings.{IsOfMap}
use Rattle.demo_lines.specs.Recording.{next, event_of, events_of_line, after, events_of}
use Rattle.demo_lines.specs.Said.{line_said, after_said}
use Rattle.demo_lines.proofs.Counting.{going-before}
use Rattle.demo_lines.proofs.Ends.{next-long, after-over, over_refused}
use Rattle.demo_lines.proofs.MapGiven.{line_said-taken}
use Rattle.demo_lines.proofs.OnePass.{next-said, events-said}
use Rattle.demo_lines.proofs.Taking.{IsTaken}
use Rattle.demo_lines.proofs.Walks.{whole_after, stage_after-line}

no-map-line : (stage : Stage) (line : MapLine) → is_map_whole stage ≡ true → IsOfMap stage line → ⊥
no-map-line Start line whole is = cc
no-map-line Map line whole is = cc
no-map-line Playing line whole is = is
no-map-line Ended line whole is = is
no-map-line (Refused why) line whole is = is

said-gives : (s : Reading) (said : Result Line LineFault) → is_map_whole s.stage ≡ true → IfOk said (IsTaken s.stage) → is_refused (after_said s said).stage ≡ false
    → event_of (result_ok said) ≡ [] → ⊥
said-gives s (Err why) whole taken fine none = cc
said-gives s (Ok (OfMap line)) whole taken fine none = no-map-line s.stage line whole taken
said-gives s (Ok Frame) whole taken fine none = cc
said-gives s (Ok (From a)) whole taken fine none = cc
said-gives s (Ok End) whole taken fine none = cc

-- once the map is whole, each line that isn't refused gives an event
line-gives : (s : Reading) (line : List ℕ) → is_over s.stage ≡ false → is_map_whole s.stage ≡ true → is_refused (next s line).stage ≡ false → events_of_line s line ≡ [] → ⊥
line-gives s line going whole fine none = by (is_long line) refl
  where
    by : (b : Bool) → is_long line ≡ b → ⊥
    by true is =
        let far : 512 < length line = grind (arith, nat_tests) in
        let refused : is_refused (next s line).stage ≡ true = ap (λ (t : Reading). is_refused t.stage) (next-long s line going far) in
        cc
    by false is =
        let here : is_refused (after_said s (line_said s.stage line)).stage ≡ false = ap (λ (t : Reading). is_refused t.stage) (sym (next-said s line going is)) ∙ fine in
        said-gives s (line_said s.stage line) whole (line_said-taken s.stage line) here (sym (events-said s line going is here) ∙ none)

-- what isn't refused after lines wasn't refused before them
fine-before : (r : Reading) (lines : List (List ℕ)) → is_refused (after r lines).stage ≡ false → is_refused r.stage ≡ false
fine-before r lines fine = by (is_refused r.stage) refl
  where
    by : (b : Bool) → is_refused r.stage ≡ b → is_refused r.stage ≡ false
    by false is = is
    by true is =
        let still : is_refused (after r lines).stage ≡ true = ap (λ (t : Reading). is_refused t.stage) (after-over r lines (over_refused r.stage is)) ∙ is in
        cc

no-more : {X : Type 0} (x : X) (xs ys zs : List X) → length ((x ∷ xs) ++ (ys ++ zs)) ≡ 1 → (xs ≡ []) × (ys ≡ [])
no-more x [] [] zs one = (refl, refl)
no-more x [] (y ∷ ys) zs one = absurd (omega (arith, one))
no-more x (y ∷ xs) ys zs one = absurd (omega (arith, one))

-- lines that give one event, of which the recording goes on after all but the last and none is refused
pub none-before : (r : Reading) (lines : List (List ℕ)) → is_over (after r (all_but_last lines)).stage ≡ false → is_refused (after r lines).stage ≡ false
    → length (events_of r lines) ≡ 1 → events_of r (all_but_last lines) ≡ []
none-before r [] going fine one = refl
none-before r (line ∷ []) going fine one = refl
none-before r (line ∷ other ∷ lines) going fine one = by (events_of_line r line) refl one (λ count. none-before (next r line) (other ∷ lines) going fine count)
  where
    rest : List Event
    rest = events_of (next r line) (all_but_last (other ∷ lines))

    by : (es : List Event) → events_of_line r line ≡ es → length (es ++ events_of (next r line) (other ∷ lines)) ≡ 1
        → (length (events_of (next r line) (other ∷ lines)) ≡ 1 → rest ≡ []) → events_of_line r line ++ rest ≡ []
    by [] is count later = ap (λ es. es ++ rest) is ∙ later count
    by (e ∷ es) is count later =
        let none = no-more e es (events_of_line (next r line) other) (events_of (next (next r line) other) lines) count in
        let stage = stage_after-line r (next r line) line e refl (is ∙ ap (λ xs. e ∷ xs) none.0) in
        absurd (line-gives (next r line) other (going-before (next r line) (all_but_last (other ∷ lines)) going) (ap is_map_whole stage ∙ whole_after e)
        (fine-before (next (next r line) other) lines fine) none.1)
