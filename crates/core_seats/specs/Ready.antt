-- When a seat may make its next step.
use Rattle.std.specs.Prelude.{◌≡◌, Bool, true, false, if◌then◌else◌, Option, Some, None}
use Rattle.entity_recs.specs.declared.effect.Effect.{Effect}
use Rattle.entity_recs.specs.Commands.{Command}
use Rattle.core_steps.specs.Nodes.{Fixed}
use Rattle.core_steps.specs.Points.{Point}
use Rattle.core_steps.specs.Points.{Resolving}
use Rattle.core_steps.specs.Reads.{View}
use Rattle.core_steps.specs.Reads.{effect_loaded}
use Rattle.core_steps.specs.Steps.{is_taking}
use Rattle.core_steps.specs.Machine.{IsPending}
use Rattle.core_seats.specs.Sound.{IsSound}

-- all is read, and the effect enters the view with the next step
abbrev pub is_resolving : Point → Bool
is_resolving Resolving = true
is_resolving _ = false

-- the effect that enters the view with the next step, if one does
abbrev pub effect_due : Fixed → View → Option Effect
effect_due F view = if is_resolving view.point then Some (effect_loaded F view) else None

-- the view is sound, a command that was given may be begun, a seat that is to give up takes a node or commits next, and
-- an effect that is kept is the one that the action gives on what was loaded
pub record IsReady (F : Fixed) (view : View) (given : Option Command) (quits : Bool) (effect : Option Effect) :
    Type 0 where
  pub sound : IsSound F view
  pub pending : (c : Command) → given ≡ Some c → IsPending F view c
  pub taking : quits ≡ true → is_taking view.point ≡ true
  pub due : (e : Effect) → view.point ≡ Resolving → effect ≡ Some e → e ≡ effect_loaded F view
