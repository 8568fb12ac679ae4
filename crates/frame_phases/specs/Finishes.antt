-- A frame that is begun, and what it is once it is finished.
use Rattle.std.specs.Prelude.{◌≡◌, ℕ, ◌*◌, ◌≤◌, List, length}
use Rattle.entity_recs.specs.declared.effect.Entry.{Entry}
use Rattle.move_journal.specs.Merges.{IsInOrder}
use Rattle.arena_map.specs.Maps.{MapView, IsMap}
use Rattle.arena_actions.specs.MapActions.{map_in}
use Rattle.client_ports.specs.States.{State}
use Rattle.client_ports.specs.Receiving.{Receiving}
use Rattle.world_tree.specs.Worlds.{WorldView}
use Rattle.plain_server.specs.Entries.{IsReception}
use Rattle.plain_server.specs.Frames.{moved_by, state_after, IsRightAfter}
use Rattle.plain_server.specs.Replies.{slots_of, replies_of}
use Rattle.move_phase.specs.Starting.{StartedView, AreStarted}

-- what a receive pass leaves for the moves: a reception, and at most 8 moves for each of 64 slots
pub record IsReceived (map : MapView) (r : Receiving) : Type 0 where
  pub pass : IsReception map r
  pub few : length r.lists.moves ≤ 8 * 64

-- these packets were received, and the moves that were accepted are started in this world
pub record IsBegun (started : StartedView) (world : WorldView) (r : Receiving) : Type 0 where
  pub is_map : IsMap (map_in started.action)
  pub got : IsReceived (map_in started.action) r
  pub moves : AreStarted world r.lists.moves started

-- a frame with this number was finished after these packets were received: its journal is right, with one worker has
-- the moves in the order of arrival, the slots and the replies are those after the moves, and the state is the next one
pub record IsFinished (map : MapView) (frame workers : ℕ) (r : Receiving) (next : State) (journal : List Entry)
    (slots : List ℕ) (replies : List (List ℕ)) : Type 0 where
  pub right : IsRightAfter map r journal
  pub order : workers ≡ 1 → IsInOrder journal r.lists.moves
  pub slots_are : slots ≡ slots_of (moved_by map r journal).records
  pub replies_are : replies ≡ replies_of frame (moved_by map r journal).records
  pub next_is : next ≡ state_after map r journal
