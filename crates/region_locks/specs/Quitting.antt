-- What a pass does next as a step, and the pass after it is to give up its command.
use Rattle.std.specs.Prelude.{◌≤◌, ◌≡◌, ℕ, Bool, true, false, not, ◌&&◌, ◌||◌, Option, is_some}
use Rattle.std.specs.Option.{option_map}
use Rattle.core_steps.specs.declared.step.Step.{Step}
use Rattle.core_steps.specs.Nodes.{Fixed}
use Rattle.core_steps.specs.Points.{stage_of, is_busy}
use Rattle.core_steps.specs.Steps.{first_yield}
use Rattle.core_steps.specs.Machine.{YieldCount, step_of}
use Rattle.core_seats.specs.Ready.{is_resolving}
use Rattle.ruled_words.specs.Passes.{PassView, next_of_pass, pass_after}

-- the pass's next step, by its kind and its word
abbrev pub next_step : Fixed → PassView → Option Step
next_step F p = option_map (step_of p.number p.view) (next_of_pass F p)

-- the pass has a command in hand, and it isn't the effect of that command that comes next
abbrev pub has_next_step : PassView → Bool
has_next_step p = is_some p.given || (is_busy (stage_of p.view.point)
    && not (is_resolving p.view.point && not p.quits && not (is_some p.effect)))

-- a pass was asked to give up: where it holds a node, giving back what it holds comes next; else it has loaded the
-- count, which isn't below the one that it had seen, and the command is no longer in hand
pub record HasQuit (F : Fixed) (old new : PassView) : Type 0 where
  pub holding : is_some (first_yield F old.view) ≡ true → new ≡ record old { quits = true }
  pub found : ℕ
  pub none_held : is_some (first_yield F old.view) ≡ false → new ≡ pass_after F YieldCount found old
  pub seen : is_some (first_yield F old.view) ≡ false → old.view.seen ≤ found

-- the pass has a command in hand
abbrev pub has_command_in_hand : PassView → Bool
has_command_in_hand p = is_some p.given || is_busy (stage_of p.view.point)
