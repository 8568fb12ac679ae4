-- What holds of each line of a recording, by whether it is ignored, refused or taken.
use Rattle.std.proofs.Common.{◌≡◌, ℕ, ◌<◌, ◌≤◌, Bool, true, false, List, [], Option, Some, None, Result, Ok, Err, IfSome, IfOk, cond, refl, sym, subst, arith, length}
use Rattle.std.proofs.lemmas.Bool.Decides.{nat_tests}
use Rattle.demo_lines.specs.declared.stage.Stage.TheVariants.{Refused}
use Rattle.demo_lines.specs.declared.line.Line.{Line}
use Rattle.demo_lines.specs.declared.line_fault.LineFault.{LineFault}
use Rattle.demo_lines.specs.declared.line_fault.LineFault.TheVariants as faults
use Rattle.demo_lines.specs.declared.event.Event.{Event}
use Rattle.demo_lines.specs.Known.{Reading, is_over, at_stage}
use Rattle.demo_lines.specs.Lines.{line_in}
use Rattle.demo_lines.specs.Faults.{is_long, fault_of}
use Rattle.demo_lines.specs.Said.{line_said, stage_fault}
use Rattle.demo_lines.specs.Recording.{next, after_line, after_test, event_of, events_of_test, events_of_line}
use Rattle.demo_lines.proofs.Ends.{fault_of-long}
use Rattle.demo_lines.proofs.OnePass.{fault_said, fault-said, line-said}
use Rattle.demo_lines.proofs.Taking.{IsTaken}
use Rattle.demo_lines.proofs.MapGiven.{line_said-taken}
use Rattle.out_text.proofs.Saying.{IsSound, line_in-sound}
use Rattle.out_text.proofs.Fitting.{FitsLine, line_in-fits}

-- a line that is taken: the recording isn't over, and the line is sound, allowed at its stage and without a fault there
pub record IsTakenBy (r : Reading) (line : Line) : Type 0 where
  pub going : is_over r.stage ≡ false
  pub sound : IsSound line
  pub fits : FitsLine line
  pub taken : IsTaken r.stage line
  pub faultless : stage_fault r line ≡ None

-- P of what is known before a line and after it, and of its events
module _ (P : Reading → Reading → List Event → Type 0) (ignored : (r : Reading) → P r r [])
    (refused : (r : Reading) (why : LineFault) → P r (at_stage (Refused why) r) [])
    (taken : (r : Reading) (line : Line) → IsTakenBy r line → P r (after_line r (Some line)) (event_of (Some line))) where
  abbrev Holds : Reading → Option LineFault → Option Line → Type 0
  Holds r fault line = P r (after_test r fault line) (events_of_test fault line)

  by_place : (r : Reading) (line : Line) (fault : Option LineFault) → is_over r.stage ≡ false → IsSound line → FitsLine line → IsTaken r.stage line → stage_fault r line ≡ fault
      → Holds r fault (Some line)
  by_place r line None going sound fits is none = taken r line (record { going = going; sound = sound; fits = fits; taken = is; faultless = none })
  by_place r line (Some why) going sound fits is some = refused r why

  by_saying : (r : Reading) (fault : Option LineFault) (line : Option Line) (said : Result Line LineFault) → is_over r.stage ≡ false → fault ≡ fault_said r said
      → ((l : Line) → said ≡ Ok l → line ≡ Some l) → IfSome line IsSound → IfSome line FitsLine → IfOk said (IsTaken r.stage) → Holds r fault line
  by_saying r fault line (Ok l) going is says sound fits taken_there =
      let here = says l refl in
      let known : IsSound l = subst (λ o. IfSome o IsSound) here sound in
      let short : FitsLine l = subst (λ o. IfSome o FitsLine) here fits in
      subst (λ f. Holds r f line) (sym is) (subst (Holds r (stage_fault r l)) (sym here) (by_place r l (stage_fault r l) going known short taken_there refl))
  by_saying r fault line (Err why) going is says sound fits taken_there = subst (λ f. Holds r f line) (sym is) (refused r why)

  by_length : (r : Reading) (raw : List ℕ) (long : Bool) → is_over r.stage ≡ false → is_long raw ≡ long → Holds r (fault_of r false raw) (line_in raw)
  by_length r raw true going is =
      let far : 512 < length raw = grind (arith, nat_tests) in
      subst (λ f. Holds r f (line_in raw)) (sym (fault_of-long r false raw far)) (refused r faults.Long)
  by_length r raw false going is =
      by_saying r (fault_of r false raw) (line_in raw) (line_said r.stage raw) going (fault-said r raw is) (λ l h. line-said r.stage raw l h) (line_in-sound raw) (line_in-fits raw (let short : length raw ≤ 512 = grind (arith, nat_tests) in short))
      (line_said-taken r.stage raw)

  by_stage : (r : Reading) (raw : List ℕ) (over : Bool) → is_over r.stage ≡ over
      → P r (cond over r (after_test r (fault_of r false raw) (line_in raw))) (cond over [] (events_of_test (fault_of r false raw) (line_in raw)))
  by_stage r raw true is = ignored r
  by_stage r raw false is = by_length r raw (is_long raw) is refl

  pub of_each_line : (r : Reading) (raw : List ℕ) → P r (next r raw) (events_of_line r raw)
  of_each_line r raw = by_stage r raw (is_over r.stage) refl
