-- Moves of a map that are started.
use Rattle.std.specs.Prelude.{◌≡◌, ℕ, List, [], Option, Some, None}
use Rattle.std.specs.Global.{Vec}
use Rattle.entity_recs.specs.Commands.{Command}
use Rattle.arena_map.specs.Validity.{IsValidWorld}
use Rattle.arena_actions.specs.MapActions.{map_in, meaning_in, IsOfItsMap}
use Rattle.arena_actions.specs.declared.map_action.MapAction.{MapAction}
use Rattle.world_tree.specs.Worlds.{WorldView, IsLinked}
use Rattle.core_steps.specs.Nodes.{Fixed}
use Rattle.ruled_words.specs.Starts.{fixed_by}
use Rattle.ruled_words.specs.Passes.{PassView, TableView}
use Rattle.move_phase.specs.Serving.{AreWorkers}
use Rattle.move_phase.specs.Sharing.{IsReadyFor}

-- the action, how many workers there are, and the table and its passes, where there are moves
pub record StartedView : Type 0 where
  pub action : MapAction
  pub workers : ℕ
  pub shared : Option (TableView MapAction × Vec PassView)

-- what doesn't change, of a map's action and a world
abbrev pub fixed_of_arena : MapAction → WorldView → Fixed
fixed_of_arena action world = fixed_by (λ (a : MapAction). meaning_in a) action world

-- the world is shared for these commands, on a table of this action
pub record IsSharedFor (action : MapAction) (workers : ℕ) (world : WorldView) (commands : List Command)
    (table : TableView MapAction) (passes : List PassView) : Type 0 where
  pub action_is : table.action ≡ action
  pub world_is : table.world ≡ world
  pub linked : IsLinked world
  pub ready : IsReadyFor (fixed_of_arena table.action table.world) workers commands table.table table.rooms passes

-- it is, where there are commands
abbrev pub IsSharedForAny : MapAction → ℕ → WorldView → List Command
    → Option (TableView MapAction × Vec PassView) → Type 0
IsSharedForAny action workers world commands None = commands ≡ []
IsSharedForAny action workers world commands (Some shared) =
    IsSharedFor action workers world commands shared.0 shared.1.items

-- the moves of these commands are started in this world, which is valid
pub record AreStarted (world : WorldView) (commands : List Command) (s : StartedView) : Type 0 where
  pub workers : AreWorkers s.workers
  pub of_its_map : IsOfItsMap s.action
  pub valid : IsValidWorld (map_in s.action) world.records
  pub shared_for : IsSharedForAny s.action s.workers world commands s.shared
