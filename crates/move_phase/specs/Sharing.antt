-- A world that is shared for moves.
use Rattle.std.specs.Prelude.{◌≡◌, ℕ, List, length, All}
use Rattle.atomic_table.specs.Seated.{TableId}
use Rattle.entity_recs.specs.Commands.{Command}
use Rattle.core_steps.specs.Nodes.{Fixed}
use Rattle.ruled_words.specs.Passes.{PassView, IsPassOf, setting_of}
use Rattle.ruled_words.specs.NewPasses.{new_passes}
use Rattle.move_phase.specs.Running.{AreOfLive, HaveRoom}

-- the table and its passes may run these commands: the passes are new, one a worker, each has room for just the commands
-- that it serves, and the commands are those of players that are live
pub record IsReadyFor (F : Fixed) (workers : ℕ) (commands : List Command) (table : TableId) (rooms : List ℕ)
    (passes : List PassView) : Type 0 where
  pub count : length rooms ≡ workers
  pub room : HaveRoom (length rooms) commands rooms
  pub begun : passes ≡ new_passes table (setting_of F) rooms
  pub own : All (IsPassOf F (length rooms) table) passes
  pub live : AreOfLive F commands
