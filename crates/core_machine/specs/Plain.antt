-- Plain commands, for tests.
use Rattle.std.specs.Prelude.{ℕ, pos}
use Rattle.entity_recs.specs.Commands.{Command}

-- the first command of this player: 50 ms without a wish
abbrev pub plain_command : ℕ → Command
plain_command slot = record { slot = slot; seq = 1; frame = 0; ms = 50; wish_x = pos 0; wish_y = pos 0; buttons = 0 }
