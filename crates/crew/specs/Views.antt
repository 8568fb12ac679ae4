-- What the two seats of a post know.
use Rattle.std.specs.Prelude.{Option, None}
use Rattle.crew.specs.declared.view.View.{View}
use Rattle.crew.specs.declared.view.Role.TheVariants.{Alone, New, Leader, Helper}

module _ {T : Type 0} where
  -- the leader, before the helper has a seat
  abbrev pub alone : View T
  alone = record { role = Alone; item = None }

  -- the leader, before it has the slot
  abbrev pub new : View T
  new = record { role = New; item = None }

  -- the leader, with what it has handed over
  abbrev pub leading : Option T → View T
  leading item = record { role = Leader; item = item }

  -- the helper, with what it has begun
  abbrev pub helping : Option T → View T
  helping item = record { role = Helper; item = item }
