-- A seat's log: its commands and entries, as the items of a history.
use Rattle.std.specs.Prelude.{ℕ, ◌≡◌, ◌≤◌, List, [], ◌∷◌, length}
use Rattle.entity_recs.specs.declared.cmd.Cmd.{Cmd}
use Rattle.entity_recs.specs.declared.effect.Entry.{Entry}
use Rattle.entity_recs.specs.Commands.{command_of}
use Rattle.entity_recs.specs.Histories.{Item}

-- a log: for how many items there is room, and its items
pub record LogView : Type 0 where
  pub room : ℕ
  pub items : List Item

-- commands with their entries
abbrev pub items_of : List Cmd → List Entry → List Item
items_of [] entries = []
items_of (c ∷ commands) [] = []
items_of (c ∷ commands) (e ∷ entries) = record { command = command_of c; entry = e } ∷ items_of commands entries

-- there are as many commands as entries, and room for as many commands as is said
pub record IsLog (room room_of_commands : ℕ) (commands : List Cmd) (entries : List Entry) : Type 0 where
  pub same : length commands ≡ length entries
  pub commands_fit : room ≤ room_of_commands
