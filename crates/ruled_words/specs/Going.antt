-- When a seat may go on, and the view after a look at the count.
use Rattle.std.specs.Prelude.{ℕ, ◌%◌, ◌≡◌, Bool, true, if◌then◌else◌, Option, Some}
use Rattle.entity_recs.specs.Commands.{Command}
use Rattle.core_steps.specs.Nodes.{Fixed}
use Rattle.core_steps.specs.Points.{Idle}
use Rattle.core_steps.specs.Reads.{View}
use Rattle.core_steps.specs.Steps.{first_yield, is_taking}
use Rattle.core_steps.specs.Machine.{Next, next_at, quitting, IsPending}

-- what comes next, of a seat that was given this command or is asked to give up
abbrev pub next_asked : Fixed → View → Option Command → Bool → Option Next
next_asked F view given quits =
    if quits then Some (quitting (first_yield F view)) else next_at F view given view.point

-- a seat that lives may go on with this step: it comes next, a command that was given may be begun, and is of a slot
-- that the seat serves, and giving up begins at a take
pub record MayGo (F : Fixed) (passes number : ℕ) (view : View) (given : Option Command) (quits : Bool) (next : Next) :
    Type 0 where
  pub lives : view.live ≡ true
  pub comes : next_asked F view given quits ≡ Some next
  pub pending : (c : Command) → given ≡ Some c → IsPending F view c
  pub serves : (c : Command) → given ≡ Some c → c.slot % passes ≡ number
  pub at_take : quits ≡ true → is_taking view.point ≡ true

-- a seat that lives rests: no command is in view
pub record IsAtRest (view : View) : Type 0 where
  pub lives : view.live ≡ true
  pub idle : view.point ≡ Idle

-- the view after the count was loaded
abbrev pub view_looked : ℕ → View → View
view_looked found view = record view { seen = found }
