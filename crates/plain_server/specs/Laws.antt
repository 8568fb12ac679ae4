-- What holds of the plain server, after any frames.
use Rattle.std.specs.Prelude.{◌≡◌, ◌↔◌, ℕ, ◌+◌, ◌<◌, ◌≤◌, List, [], ◌∷◌, ◌++◌, length, take, slice_get, Option, Some}
use Rattle.std.specs.Prelude.{None, All, true, false}
use Rattle.entity_recs.specs.declared.rec.Rec.{Rec}
use Rattle.entity_recs.specs.declared.effect.Entry.{Entry}
use Rattle.entity_recs.specs.Commands.{Command}
use Rattle.entity_recs.specs.Histories.{world_after}
use Rattle.move_journal.specs.Merges.{IsInOrder}
use Rattle.arena_map.specs.Maps.{MapView, IsMap, delay_of}
use Rattle.arena_map.specs.Validity.{IsValidWorld, IsOpeningWorld, AreClear}
use Rattle.arena_outcomes.specs.Outcomes.{outcome_on}
use Rattle.world_tree.specs.Live.{record_at}
use Rattle.packet_read.specs.declared.arrival.Arrival.{Arrival}
use Rattle.client_ports.specs.Clients.{client_at, AreClients}
use Rattle.client_ports.specs.States.{State, IsServerState, state_of}
use Rattle.client_ports.specs.Lists.{no_lists}
use Rattle.client_ports.specs.Receiving.{Receiving, receiving_of, after_arrival, after_arrivals}
use Rattle.client_ports.specs.Finishing.{is_leaver}
use Rattle.world_physics.specs.Ticks.{after_tick}
use Rattle.plain_server.specs.RecordsById.{world_of, records_in, opening}
use Rattle.plain_server.specs.Moving.{HasLivePlayer}
use Rattle.plain_server.specs.Entries.{AreReported, HasBytes}
use Rattle.plain_server.specs.Frames.{received_in, moved_by, state_after, state_played, IsRightAfter}
use Rattle.plain_server.specs.Frames.{AreRight, AreInOrder, journals_of}
use Rattle.plain_server.specs.Takers.{HasTakenIn, IsItemOf, IsSameEntry, HasOneTaker, HasItemsAway}
use Rattle.plain_server.specs.Ends.{HasNoEntryOf, IsLastEntry, IsAsReported, unhurt}

-- before the first frame nobody is joined, and each thing of the map is live at its id and as at the start, and nothing
-- else is
pub record OpeningIsAsTheMapSays : Type 0 where
  pub nobody : (map : MapView) (slot : ℕ) → client_at (opening map).clients slot ≡ None
  pub things : (map : MapView) → IsMap map → IsOpeningWorld map (opening map).records

-- moves of live players, in whatever order they run, keep a valid world valid
abbrev pub MovesKeepWorldsValid : Type 0
MovesKeepWorldsValid =
    (map : MapView) (records : List (Option Rec)) (commands : List Command) → IsMap map → IsValidWorld map records
    → All (HasLivePlayer records) commands
    → IsValidWorld map (records_in (world_after (outcome_on map) (world_of records) commands) records)

-- what is received in the frame after these, played with these journals
abbrev pub received_next : MapView → List (List Arrival) → List (List Entry) → List Arrival → Receiving
received_next map frames journals arrivals =
    received_in map (length frames) (state_played map 0 (opening map) frames journals) arrivals

-- after any frames, with whatever journals, the state is one of the map: the world is valid, ports are apart, and the
-- live slots are the live players; so is the one after the moves of a frame, which its replies show
pub record WorldsStayValid : Type 0 where
  pub between : (map : MapView) (frames : List (List Arrival)) (journals : List (List Entry)) → IsMap map
      → IsServerState map (state_played map 0 (opening map) frames journals)
  pub shown : (map : MapView) (frames : List (List Arrival)) (journals : List (List Entry)) (arrivals : List Arrival)
      (journal : List Entry) → IsMap map
      → IsServerState map (moved_by map (received_next map frames journals arrivals) journal)

-- after any frames, with whatever journals, no two live slots share a port
abbrev pub PortsStayApart : Type 0
PortsStayApart =
    (map : MapView) (frames : List (List Arrival)) (journals : List (List Entry))
    → AreClients (state_played map 0 (opening map) frames journals).clients

-- after any frames, with whatever journals, no player's body overlaps a wall or a block, and no bodies of two live
-- solids overlap; nor do they after the moves of a frame, where those that leave are still there
pub record PlayersKeepRoom : Type 0 where
  pub between : (map : MapView) (frames : List (List Arrival)) (journals : List (List Entry)) → IsMap map
      → AreClear map (state_played map 0 (opening map) frames journals).records
  pub shown : (map : MapView) (frames : List (List Arrival)) (journals : List (List Entry)) (arrivals : List Arrival)
      (journal : List Entry) → IsMap map
      → AreClear map (moved_by map (received_next map frames journals arrivals) journal).records

-- what is received in the frame with this number, after the frames before it with their journals
abbrev pub received_at : MapView → List (List Arrival) → List (List Entry) → ℕ → List Arrival → Receiving
received_at map frames journals number arrivals =
    received_in map number (state_played map 0 (opening map) (take number frames) (take number journals)) arrivals

-- there is one journal a frame, and each is right for what is received in its frame, in the state after the frames
-- before it with their journals
pub record AreRightInTurn (map : MapView) (frames : List (List Arrival)) (journals : List (List Entry)) : Type 0 where
  pub one_each : length journals ≡ length frames
  pub each : (number : ℕ) (arrivals : List Arrival) (journal : List Entry) → slice_get frames number ≡ Some arrivals
      → slice_get journals number ≡ Some journal
      → IsRightAfter map (received_at map frames journals number arrivals) journal

-- there is one journal a frame, and each has the moves that are accepted in its frame, in the order of arrival
pub record AreOrderedInTurn (map : MapView) (frames : List (List Arrival)) (journals : List (List Entry)) : Type 0 where
  pub one_each : length journals ≡ length frames
  pub each : (number : ℕ) (arrivals : List Arrival) (journal : List Entry) → slice_get frames number ≡ Some arrivals
      → slice_get journals number ≡ Some journal
      → IsInOrder journal (received_at map frames journals number arrivals).lists.moves

-- frames are played in turn, numbered from 0: each goes on from the state that those before it leave with their
-- journals; and journals are right, or in the order of arrival, exactly where there is one a frame and each is so there
pub record FramesAreInTurn : Type 0 where
  pub none : (map : MapView) → state_played map 0 (opening map) [] [] ≡ opening map
  pub one_more : (map : MapView) (frames : List (List Arrival)) (journals : List (List Entry))
      (arrivals : List Arrival) (journal : List Entry) → length journals ≡ length frames
      → state_played map 0 (opening map) (frames ++ arrivals ∷ []) (journals ++ journal ∷ [])
      ≡ state_after map (received_next map frames journals arrivals) journal
  pub right : (map : MapView) (frames : List (List Arrival)) (journals : List (List Entry))
      → AreRight map 0 (opening map) frames journals ↔ AreRightInTurn map frames journals
  pub order : (map : MapView) (frames : List (List Arrival)) (journals : List (List Entry))
      → AreInOrder map 0 (opening map) frames journals ↔ AreOrderedInTurn map frames journals

-- there are right journals of any frames that have the moves in the order of arrival
pub record JournalsAreRightInOrder : Type 0 where
  pub right : (map : MapView) (frames : List (List Arrival))
      → AreRight map 0 (opening map) frames (journals_of map 0 (opening map) frames)
  pub order : (map : MapView) (frames : List (List Arrival))
      → AreInOrder map 0 (opening map) frames (journals_of map 0 (opening map) frames)

-- right journals that have the moves in the order of arrival are these
abbrev pub OrderLeavesOneJournalEach : Type 0
OrderLeavesOneJournalEach =
    (map : MapView) (frames : List (List Arrival)) (journals : List (List Entry))
    → AreRight map 0 (opening map) frames journals
    → AreInOrder map 0 (opening map) frames journals → journals ≡ journals_of map 0 (opening map) frames

-- the entries of a right journal have their places, and are in range, and the ids that each got rise
abbrev pub RightJournalsAreInRange : Type 0
RightJournalsAreInRange =
    (map : MapView) (frame : ℕ) (state : State) (arrivals : List Arrival) (journal : List Entry) → IsMap map
    → IsServerState map state → All HasBytes arrivals → IsRightAfter map (received_in map frame state arrivals) journal
    → AreReported 0 journal

-- in a frame with a right journal at most one entry takes an item, and from then on it returns after its delay
pub record FramesHaveOneTaker : Type 0 where
  pub once : (map : MapView) (frame : ℕ) (state : State) (arrivals : List Arrival) (journal : List Entry) → IsMap map
      → IsServerState map state → IsRightAfter map (received_in map frame state arrivals) journal
      → HasOneTaker map journal
  pub away : (map : MapView) (frame : ℕ) (state : State) (arrivals : List Arrival) (journal : List Entry) → IsMap map
      → IsServerState map state → IsRightAfter map (received_in map frame state arrivals) journal
      → HasItemsAway map frame journal (state_after map (received_in map frame state arrivals) journal).records

-- what may be got: an item of the map, or, where players shoot, a player that is hit, by its slot
pub data IsGot (map : MapView) (id : ℕ) : Type 0 where
  IsItem : IsItemOf map id → IsGot map id
  IsHit : map.shots ≡ true → id < 64 → IsGot map id

-- in right journals each id that an entry got is such a one
abbrev pub OnlyItemsAndPlayersAreGot : Type 0
OnlyItemsAndPlayersAreGot =
    (map : MapView) (frames : List (List Arrival)) (journals : List (List Entry)) → IsMap map
    → AreRight map 0 (opening map) frames journals
    → (frame place id : ℕ) → HasTakenIn journals frame place id → IsGot map id

-- in a frame at most one entry takes an item
abbrev pub ItemsHaveOneTaker : Type 0
ItemsHaveOneTaker =
    (map : MapView) (frames : List (List Arrival)) (journals : List (List Entry)) → IsMap map
    → AreRight map 0 (opening map) frames journals
    → (frame place other id : ℕ) → IsItemOf map id → HasTakenIn journals frame place id
    → HasTakenIn journals frame other id → other ≡ place

-- an item that an entry took stays away for its delay: in the frames from that one on, as many as the delay says, no
-- other entry takes it
abbrev pub TakenItemsStayAway : Type 0
TakenItemsStayAway =
    (map : MapView) (frames : List (List Arrival)) (journals : List (List Entry)) → IsMap map
    → AreRight map 0 (opening map) frames journals
    → (frame place later other id delay : ℕ) → delay_of map id ≡ Some delay
    → HasTakenIn journals frame place id → HasTakenIn journals later other id
    → frame ≤ later → later < frame + delay → IsSameEntry frame place later other

-- a frame ends where its moves did. After the moves of a right journal each player with an entry is where the last one
-- reports it, and a player without an entry is as the receive pass left it, where players
-- shoot but for its state. Whatever the journal, the next frame begins with these records: only those whose client leaves
-- are gone
pub record FramesEndWithTheirMoves : Type 0 where
  pub moved : (map : MapView) (frame : ℕ) (state : State) (arrivals : List Arrival) (journal : List Entry) → IsMap map
      → IsServerState map state
      → let r = received_in map frame state arrivals in
      IsRightAfter map r journal → (e : Entry) → IsLastEntry journal e
      → IsAsReported (moved_by map r journal).records e
  pub unmoved : (map : MapView) (frame : ℕ) (state : State) (arrivals : List Arrival) (journal : List Entry)
      → IsMap map → IsServerState map state
      → let r = received_in map frame state arrivals in
      IsRightAfter map r journal → (slot : ℕ) → slot < 64 → HasNoEntryOf slot journal
      → unhurt (record_at (moved_by map r journal).records slot) ≡ unhurt (record_at r.state.records slot)
  pub untouched : (map : MapView) (frame : ℕ) (state : State) (arrivals : List Arrival) (journal : List Entry)
      → IsMap map → IsServerState map state → map.shots ≡ false
      → let r = received_in map frame state arrivals in
      IsRightAfter map r journal → (slot : ℕ) → slot < 64 → HasNoEntryOf slot journal
      → record_at (moved_by map r journal).records slot ≡ record_at r.state.records slot
  pub kept : (map : MapView) (frame : ℕ) (state : State) (arrivals : List Arrival) (journal : List Entry) → IsMap map
      → IsServerState map state
      → let r = received_in map frame state arrivals in
      (id : ℕ) → is_leaver (client_at r.state.clients id) ≡ false
      → record_at (state_after map r journal).records id ≡ record_at (moved_by map r journal).records id
  pub gone : (map : MapView) (frame : ℕ) (state : State) (arrivals : List Arrival) (journal : List Entry) → IsMap map
      → IsServerState map state
      → let r = received_in map frame state arrivals in
      (id : ℕ) → is_leaver (client_at r.state.clients id) ≡ true
      → record_at (state_after map r journal).records id ≡ None

-- a frame begins with its tick: its first packet is taken in the world after it, with place 0, and the others after that
-- one; without packets nothing else is
pub record FramesBeginWithTheirTick : Type 0 where
  pub alone : (map : MapView) (frame : ℕ) (state : State) → received_in map frame state []
      ≡ receiving_of (state_of state.clients (after_tick map frame state.records)) no_lists
  pub first : (map : MapView) (frame : ℕ) (state : State) (a : Arrival) (more : List Arrival)
      → let ticked = receiving_of (state_of state.clients (after_tick map frame state.records)) no_lists in
      received_in map frame state (a ∷ more)
      ≡ after_arrivals map frame (after_arrival map frame ticked 0 a) 1 more
