-- The commands that the tests give.
use Rattle.std.specs.Prelude.{ℕ}
use Rattle.entity_recs.specs.Commands.{Command}
use Rattle.core_machine.specs.Plain.{plain_command}

-- the first command of this player, with these buttons
abbrev pub errand_command : ℕ → ℕ → Command
errand_command slot buttons = record (plain_command slot) { buttons = buttons }
