-- What the laws say from the start on: how many steps a command takes, and that it is logged.
use Rattle.std.proofs.Common.{◌≡◌, ℕ, Bool, true, false, List, [], ◌++◌, refl, sym, ap, ◌∙◌, inl, inr, Option, Some, None, is_some, arith}
use Rattle.std.specs.Prelude.{◌||◌}
use Rattle.std.proofs.lemmas.Bool.{true≢false, false≢true}
use Rattle.std.proofs.lemmas.List.{append-nil}
use Rattle.entity_recs.specs.Commands.{Command}
use Rattle.entity_recs.specs.Histories.{commands_of}
use Rattle.core_steps.specs.Nodes.{Fixed}
use Rattle.core_steps.specs.Points.{Stage, AtRest, AtOwning, AtTaking, AtChecking, AtReading, AtClaiming, AtStoring}
use Rattle.core_steps.specs.Points.{AtReleasing, AtReturning, AtYielding, stage_of, is_busy}
use Rattle.core_steps.specs.Reads.{View}
use Rattle.core_steps.specs.Calls.{start_machine, after_calls, is_pursued, pursued_of}
use Rattle.core_steps.proofs.Reached.{machine_start_stands, idle_at_start}
use Rattle.core_steps.proofs.Kept.{log_holds_the_commands_kept}
use Rattle.core_progress.specs.Progress.{steps_of_all}
use Rattle.core_progress.specs.Laws.{CommandsTakeFewSteps, EndedCommandsAreLogged}
use Rattle.core_progress.proofs.Calls.{served_steps_are_bounded}
use Rattle.core_progress.proofs.Rounds.{none_or_some}

-- ---- how many steps commands take

-- at the start no command is in hand, so no step is left
none_at_start : (F : Fixed) (room : ℕ) (rooms : List ℕ) → steps_of_all F (start_machine F room rooms) ≡ 0
none_at_start F room rooms = elim (none_or_some F (start_machine F room rooms)) [
  | inl none ↦ none
  | inr some ↦
      let idle = ap (λ p. is_busy (stage_of p)) (idle_at_start F room rooms some.seat) in
      absurd (false≢true (sym idle ∙ some.has))
]

pub commands_take_few_steps : CommandsTakeFewSteps
commands_take_few_steps F room rooms calls lawful start depth may =
    let first = machine_start_stands F room rooms in
    let bound = served_steps_are_bounded F (start_machine F room rooms) [] F.start calls lawful start depth first may in
    let none = none_at_start F room rooms in
    omega (arith, bound, none)

-- ---- that it is logged

rest_pursued : (stage : Stage) → is_busy stage ≡ false → is_pursued stage ≡ false
rest_pursued AtRest e = refl
rest_pursued AtOwning e = absurd (true≢false e)
rest_pursued AtTaking e = absurd (true≢false e)
rest_pursued AtChecking e = absurd (true≢false e)
rest_pursued AtReading e = absurd (true≢false e)
rest_pursued AtClaiming e = absurd (true≢false e)
rest_pursued AtStoring e = absurd (true≢false e)
rest_pursued AtReleasing e = absurd (true≢false e)
rest_pursued AtReturning e = absurd (true≢false e)
rest_pursued AtYielding e = absurd (true≢false e)

none_pursued : (given : Option Command) (quits : Bool) (view : View) → (is_some given || is_busy (stage_of view.point)) ≡ false → pursued_of given quits view ≡ []
none_pursued (Some c) quits view e = absurd (true≢false e)
none_pursued None true view e = refl
none_pursued None false view e = let none = rest_pursued (stage_of view.point) e in rw none refl

pub ended_commands_are_logged : EndedCommandsAreLogged
ended_commands_are_logged F room rooms calls i lawful start may none =
    let m = after_calls F (start_machine F room rooms) calls in
    let empty = none_pursued (m.given i) (m.quits i) (m.core.view i) none in
    let all = log_holds_the_commands_kept F room rooms calls i lawful start may in
    sym (append-nil (commands_of (m.core.view i).log)) ∙ ap (λ (c : List Command). commands_of (m.core.view i).log ++ c) (sym empty) ∙ all
