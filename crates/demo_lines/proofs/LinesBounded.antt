-- A recording is over after a bounded number of lines.
use Rattle.std.proofs.Common.{◌≡◌, ℕ, ◌+◌, ◌<◌, Bool, true, false, List, [], ◌∷◌, length, refl, sym, ap, ◌∙◌, subst, arith}
use Rattle.std.proofs.lemmas.Bool.Decides.{nat_tests}
use Rattle.demo_lines.specs.declared.line_fault.LineFault.TheVariants as faults
use Rattle.demo_lines.specs.Known.{Reading, start, is_over}
use Rattle.demo_lines.specs.Faults.{is_long}
use Rattle.demo_lines.specs.Recording.{next, after, lines_left, most_lines}
use Rattle.demo_lines.specs.Said.{line_said}
use Rattle.demo_lines.specs.Readings.{IsReading}
use Rattle.demo_lines.proofs.Ends.{after-over, next-counts, next-long}
use Rattle.demo_lines.proofs.OnePass.{next-said}
use Rattle.demo_lines.proofs.Taking.{GoesOn, said-goes_on, refusing-goes_on, some_lines_left}
use Rattle.demo_lines.proofs.MapGiven.{line_said-placed}

start-holds : IsReading start
start-holds = record { map = (refl, refl, refl); limit = omega arith; frames = omega arith; arrivals = omega arith; lines = omega arith }

next-goes_on : (r : Reading) (raw : List ℕ) (b : Bool) → IsReading r → is_over r.stage ≡ false → is_long raw ≡ b → GoesOn (lines_left r) (next r raw)
next-goes_on r raw true holds going is =
    let far : 512 < length raw = grind (arith, nat_tests) in
    subst (GoesOn (lines_left r)) (sym (next-long r raw going far)) (refusing-goes_on r faults.Long holds going)
next-goes_on r raw false holds going is =
    subst (GoesOn (lines_left r)) (sym (next-said r raw going is)) (said-goes_on r (line_said r.stage raw) holds going (line_said-placed r.stage raw))

-- lines that a recording isn't over after are counted, and what is known after them holds
record Counted (r : Reading) (lines : List (List ℕ)) : Type 0 where
  holds : IsReading (after r lines)
  counted : (after r lines).lines ≡ r.lines + length lines

counted : (r : Reading) (lines : List (List ℕ)) → IsReading r → is_over (after r lines).stage ≡ false → Counted r lines
counted r [] holds going = record { holds = holds; counted = omega arith }
counted r (line ∷ lines) holds going = by (is_over r.stage) refl (λ one. counted (next r line) lines one going)
  where
    by : (over : Bool) → is_over r.stage ≡ over → (IsReading (next r line) → Counted (next r line) lines) → Counted r (line ∷ lines)
    by true over more =
        let same : is_over (after r (line ∷ lines)).stage ≡ true = ap (λ (t : Reading). is_over t.stage) (after-over r (line ∷ lines) over) ∙ over in
        cc
    by false here more =
        let one = next-goes_on r line (is_long line) holds here refl in
        let rest = more one.holds in
        record { holds = rest.holds; counted = omega (arith, rest.counted, next-counts r line here) }

pub lines_bounded : (lines : List (List ℕ)) → is_over (after start lines).stage ≡ false → length lines < most_lines
lines_bounded lines going =
    let all = counted start lines start-holds going in
    omega (arith, all.counted, all.holds.lines, some_lines_left (after start lines) going)
