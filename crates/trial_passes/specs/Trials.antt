-- The passes of a test.
use Rattle.std.specs.Prelude.{◌≡◌, ℕ}
use Rattle.atomic_table.specs.Seated.{TableId}
use Rattle.core_steps.specs.Nodes.{Fixed}
use Rattle.ruled_words.specs.Passes.{PassView, IsPassOf}
use Rattle.shared_moves.specs.Closing.{HasNoCommand}
use Rattle.shared_moves.specs.InHand.{MayBegin}

-- the pass with this number belongs to the table, has no command in hand, and has room for one
pub record IsFree (F : Fixed) (passes : ℕ) (table : TableId) (number : ℕ) (p : PassView) : Type 0 where
  pub own : IsPassOf F passes table p
  pub number_is : p.number ≡ number
  pub free : MayBegin p

-- the pass with this number belongs to the table, and has no command in hand
pub record IsResting (F : Fixed) (passes : ℕ) (table : TableId) (number : ℕ) (p : PassView) : Type 0 where
  pub own : IsPassOf F passes table p
  pub number_is : p.number ≡ number
  pub rests : HasNoCommand p
