-- When the seat in plain values may make the step that its hand has made.
use Rattle.std.specs.Prelude.{◌≡◌, ℕ, ◌+◌, ◌^◌, ◌<◌, Bool, true, Option, is_some}
use Rattle.entity_recs.specs.declared.effect.Effect.{Effect}
use Rattle.entity_recs.specs.Commands.{Command}
use Rattle.core_steps.specs.declared.step.StepKind.TheVariants.{Commit}
use Rattle.core_steps.specs.Nodes.{Fixed}
use Rattle.core_steps.specs.Reads.{View}
use Rattle.core_steps.specs.Machine.{kind_of}
use Rattle.core_seats.specs.Going.{view_found}
use Rattle.core_seats.specs.Nexts.{next_with, the_next}
use Rattle.core_seats.specs.Ready.{IsReady}
use Rattle.core_seats.specs.Sound.{IsSound}

-- the step that comes next may be made where this word was found: the view is sound before and after it, and a count
-- that it adds 1 to doesn't wrap
pub record CanFollow (F : Fixed) (view : View) (given : Option Command) (quits : Bool) (effect : Option Effect)
    (found : ℕ) : Type 0 where
  pub comes : is_some (next_with F view given quits effect) ≡ true
  pub ready : IsReady F view given quits effect
  pub after : IsSound F (view_found F view (the_next (next_with F view given quits effect)) found)
  pub small : kind_of (the_next (next_with F view given quits effect)) ≡ Commit → found + 1 < 2 ^ 64
