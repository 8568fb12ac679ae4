-- What is asked of the program, and what its answer is.
use Rattle.std.specs.Prelude.{ℕ, List}
use Rattle.std.specs.Borrow.{Bor}
use Rattle.edge_io.specs.Counts.{HasRisen}
use Rattle.arena_engine.specs.declared.command.Command.{Command}
use Rattle.arena_engine.specs.Commands.{Spells, contents}

-- the words are those of this command
abbrev pub AskFor : List (Bor (List ℕ)) → Command → Type 0
AskFor words command = Spells (contents words) command

-- they are those of no command
abbrev pub AskForNothing : List (Bor (List ℕ)) → Type 0
AskForNothing words = (command : Command) → AskFor words command → ⊥

-- neither the source's count of faults nor the sink's has risen
pub record NothingFailed (reads_before reads writes_before writes : ℕ) : Type 0 where
  pub reading : HasRisen reads_before reads → ⊥
  pub writing : HasRisen writes_before writes → ⊥
