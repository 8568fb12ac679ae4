-- What the moves of a frame leave: the things of the map, and the players after their last moves.
use Rattle.std.specs.Prelude.{◌≡◌, ◌≢◌, ℕ, ◌≤◌, List, ◌∷◌, ◌++◌, map, All, Some}
use Rattle.entity_recs.specs.declared.effect.Entry.{Entry}
use Rattle.entity_recs.specs.Histories.{Item, outcome, run}
use Rattle.move_journal.specs.Merges.{history_of}
use Rattle.arena_map.specs.Maps.{MapView, IsMap}
use Rattle.arena_outcomes.specs.Outcomes.{outcome_on}
use Rattle.world_tree.specs.Live.{record_at}
use Rattle.packet_read.specs.declared.arrival.Arrival.{Arrival}
use Rattle.client_ports.specs.States.{State, IsServerState}
use Rattle.plain_server.specs.RecordsById.{world_of}
use Rattle.plain_server.specs.Frames.{received_in, moved_by, IsRightAfter}
use Rattle.plain_server.specs.Ends.{HasNoEntryOf, unhurt}

-- no entry of the journal has the id among those that it got
abbrev pub NobodyGot : ℕ → List Entry → Type 0
NobodyGot id journal = All (λ (e : Entry). All (λ (got : ℕ). got ≢ id) e.reply.got) journal

-- the item is in the history, after these items, and none after it is of its slot
pub record IsLastMove (history before : List Item) (item : Item) : Type 0 where
  pub after : List Item
  pub history_is : history ≡ before ++ item ∷ after
  pub last : HasNoEntryOf item.entry.slot (map (λ i. i.entry) after)

-- after the moves of a right journal of a frame: the things of the map are as the receive pass left them but for their
-- state, and those that nobody got with their state; and the record of a player that moved is what its last move made of
-- it, in the world after the moves before that one, but for its state, which the hits after it may have changed
pub record MovesLeaveWhatTheyMade : Type 0 where
  pub things : (map : MapView) (frame : ℕ) (state : State) (arrivals : List Arrival) (journal : List Entry) → IsMap map
      → IsServerState map state
      → let r = received_in map frame state arrivals in
      IsRightAfter map r journal → (id : ℕ) → 64 ≤ id
      → unhurt (record_at (moved_by map r journal).records id) ≡ unhurt (record_at r.state.records id)
  pub ungot : (map : MapView) (frame : ℕ) (state : State) (arrivals : List Arrival) (journal : List Entry) → IsMap map
      → IsServerState map state
      → let r = received_in map frame state arrivals in
      IsRightAfter map r journal → (id : ℕ) → 64 ≤ id → NobodyGot id journal
      → record_at (moved_by map r journal).records id ≡ record_at r.state.records id
  pub players : (map : MapView) (frame : ℕ) (state : State) (arrivals : List Arrival) (journal : List Entry) → IsMap map
      → IsServerState map state
      → let r = received_in map frame state arrivals in
      IsRightAfter map r journal → (before : List Item) (item : Item)
      → IsLastMove (history_of r.lists.moves journal) before item
      → let now = run (outcome_on map) (world_of r.state.records) before in
      unhurt (record_at (moved_by map r journal).records item.entry.slot)
      ≡ unhurt (Some (outcome (outcome_on map) now item.command).me)
