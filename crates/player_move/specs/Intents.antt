-- What a command asks of a move.
use Rattle.std.specs.Prelude.{ℕ, ℤ}
use Rattle.entity_recs.specs.declared.cmd.Cmd.{Cmd}

-- how many milliseconds the move takes, the speed that is wished on x and y, in units a second, and the buttons
pub record Intent : Type 0 where
  pub ms : ℕ
  pub wish_x : ℤ
  pub wish_y : ℤ
  pub buttons : ℕ

-- what this command asks
abbrev pub intent_of : Cmd → Intent
intent_of cmd = record { ms = cmd.ms; wish_x = cmd.wish_x; wish_y = cmd.wish_y; buttons = cmd.buttons }
