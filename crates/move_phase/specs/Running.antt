-- What a pass may serve, and what it has served.
use Rattle.std.specs.Prelude.{◌≡◌, ℕ, ◌<◌, ◌≤◌, true, List, [], ◌++◌, map, length, slice_index, slice_index_or, All}
use Rattle.atomic_table.specs.Seated.{TableId}
use Rattle.entity_recs.specs.Commands.{Command}
use Rattle.entity_recs.specs.Histories.{Item, commands_of}
use Rattle.move_journal.specs.Logs.{JournalView}
use Rattle.world_tree.specs.Worlds.{WorldView}
use Rattle.core_steps.specs.Nodes.{Fixed, has}
use Rattle.ruled_words.specs.Passes.{PassView, IsPassOf}
use Rattle.shared_moves.specs.Closing.{HasNoCommand, IsClosed}
use Rattle.move_phase.specs.Serving.{served_by, entries_from}

-- the commands are those of players that were live at the start
abbrev pub AreOfLive : Fixed → List Command → Type 0
AreOfLive F commands = All (λ c. has F.start.ids c.slot ≡ true) commands

-- the pass belongs to the table, has no command in hand and no entry, and has room for its share of these commands
pub record MayServe (F : Fixed) (passes : ℕ) (table : TableId) (commands : List Command) (p : PassView) : Type 0 where
  pub own : IsPassOf F passes table p
  pub rests : HasNoCommand p
  pub empty : p.view.log ≡ []
  pub room : length (served_by passes p.number commands) ≤ p.view.room

-- the pass belongs to the table, has no command in hand, and has put these commands into its log after those of before
pub record HasServed (F : Fixed) (passes : ℕ) (table : TableId) (old new : PassView) (commands : List Command) : Type 0
  where
    pub own : IsPassOf F passes table new
    pub rests : HasNoCommand new
    pub number : new.number ≡ old.number
    pub room : new.view.room ≡ old.view.room
    pub log : commands_of new.view.log ≡ commands_of old.view.log ++ commands

-- for each pass there is room for just the commands that it serves
pub record HaveRoom (passes : ℕ) (commands : List Command) (rooms : List ℕ) : Type 0 where
  pub enough : passes ≤ length rooms
  pub each : (i : ℕ) → i < passes → slice_index rooms i ≡ length (served_by passes i commands)

-- the commands were run on a table with these passes, and these are its logs: each log has the commands of its pass,
-- and the table was closed
pub record HaveRun (F : Fixed) (passes : ℕ) (commands : List Command) (views : List JournalView) (world : WorldView)
    : Type 0
  where
    pub logs : List (List Item)
    pub views_are : map (λ view. view.entries) views ≡ map entries_from logs
    pub count : length logs ≡ passes
    pub served : (i : ℕ) (d : List Item) → i < passes
        → commands_of (slice_index_or logs i d) ≡ served_by passes i commands
    pub closed : IsClosed F logs world
