-- What the program's arguments ask for.
use Rattle.std.specs.Prelude.{ℕ, List, drop, map, string_bytes}
use Rattle.std.specs.declared.vec.IntoIter.{IntoIter}
use Rattle.std.specs.declared.string.String.{String}
use Rattle.std.specs.Vec.Iter.{into_iter_items}
use Rattle.arena_engine.specs.declared.command.Command.{Command}
use Rattle.arena_engine.specs.Commands.{Spells}

-- the texts of the arguments that the system has left
abbrev pub texts_in : {Z : Type 0} → IntoIter (String Z) Z → List (List ℕ)
texts_in given = map string_bytes (into_iter_items given)

-- the arguments after the program's name ask for this command
abbrev pub AsksFor : List (List ℕ) → Command → Type 0
AsksFor arguments command = Spells (drop 1 arguments) command

-- they ask for nothing
abbrev pub AskForNothing : List (List ℕ) → Type 0
AskForNothing arguments = (command : Command) → AsksFor arguments command → ⊥
