-- What the moves of a frame leave of each record.
use Rattle.std.specs.Prelude.{◌≡◌, ◌≢◌, ℕ, ◌+◌, ◌≤◌, List, [], ◌∷◌, ◌++◌, Option, Some}
use Rattle.std.proofs.Common.{sym, ap, ◌∙◌, subst, arith}
use Rattle.std.proofs.lemmas.List.Elements.{All-nil, All-cons}
use Rattle.entity_recs.specs.declared.effect.Entry.{Entry}
use Rattle.entity_recs.specs.declared.rec.Rec.{Rec}
use Rattle.entity_recs.specs.Worlds.{World}
use Rattle.entity_recs.specs.Histories.{Item, commands_of, outcome, run, apply}
use Rattle.move_journal.specs.Merges.{history_of}
use Rattle.arena_map.specs.Maps.{MapView, IsMap}
use Rattle.arena_outcomes.specs.Outcomes.{outcome_on}
use Rattle.world_tree.specs.Live.{record_at}
use Rattle.packet_read.specs.declared.arrival.Arrival.{Arrival}
use Rattle.client_ports.specs.States.{State, IsServerState}
use Rattle.client_ports.specs.Receiving.{Receiving}
use Rattle.plain_server.specs.RecordsById.{world_of}
use Rattle.plain_server.specs.Moving.{HasLivePlayer, records_after}
use Rattle.plain_server.specs.Entries.{IsReception}
use Rattle.plain_server.specs.Frames.{received_in, moved_by, IsRightAfter}
use Rattle.plain_server.specs.Ends.{HasNoEntryOf, unhurt}
use Rattle.plain_server.specs.Kept.{NobodyGot, IsLastMove, MovesLeaveWhatTheyMade}
use Rattle.plain_server.proofs.Moves.{after_all, after_all-are, moved-none, moved-more}
use Rattle.plain_server.proofs.Commands.{history_has}
use Rattle.plain_server.proofs.Runs.{entries_of, IsRun, first_live, entry_is, run_rest, journal_runs, run_entries}
use Rattle.plain_server.proofs.Ending.{mover_is, unhurt_through}
use Rattle.plain_server.proofs.Unhit.{unhit_through}
use Rattle.plain_server.proofs.Frames.{received_is}

-- the entries of a run are those of players
no_thing_moves : (map : MapView) (place : ℕ) (records : List (Option Rec)) (items : List Item) (id : ℕ) → IsMap map
    → IsRun map place records items → 64 ≤ id → HasNoEntryOf id (entries_of items)
no_thing_moves map place records [] id is_map is high = All-nil (λ (e : Entry). e.slot ≢ id)
no_thing_moves map place records (item ∷ items) id is_map is high =
    let low = (first_live map place records item items is).slot in
    let slot_is : item.entry.slot ≡ item.command.slot = ap (λ (e : Entry). e.slot) (entry_is map place records item items is) in
    All-cons (λ (e : Entry). e.slot ≢ id) item.entry (entries_of items) (λ same. absurd (omega (arith, low, slot_is, same, high)))
    (no_thing_moves map (place + 1) (records_after map records item.command) items id is_map (run_rest map place records item items is_map is) high)

-- the world after one more command
world_next : (map : MapView) (place : ℕ) (records : List (Option Rec)) (item : Item) (items : List Item) → IsMap map
    → IsRun map place records (item ∷ items)
    → world_of (records_after map records item.command) ≡ apply (outcome_on map) (world_of records) item.command
world_next map place records item items is_map is =
    (moved-more map records records [] item.command is_map (first_live map place records item items is) (moved-none map records is.valid)).world

-- the record that the last move of a player leaves
left_through : (map : MapView) (place : ℕ) (records : List (Option Rec)) (items before : List Item) (last : Item) (after : List Item) → IsMap map
    → IsRun map place records items → items ≡ before ++ last ∷ after → HasNoEntryOf last.entry.slot (entries_of after)
    → unhurt (record_at (after_all map records (commands_of items)) last.entry.slot)
    ≡ unhurt (Some (outcome (outcome_on map) (run (outcome_on map) (world_of records) before) last.command).me)
left_through map place records [] [] last after is_map is parts none = cc
left_through map place records [] (x ∷ before) last after is_map is parts none = cc
left_through map place records (item ∷ items) [] last after is_map is parts none =
    let first : item ≡ last = cc in
    let rest : items ≡ after = cc in
    subst (λ (x : Item). unhurt (record_at (after_all map records (commands_of (item ∷ items))) x.entry.slot)
    ≡ unhurt (Some (outcome (outcome_on map) (world_of records) x.command).me)) first
    (of_first (subst (HasNoEntryOf item.entry.slot) (ap entries_of (sym rest)) (subst (λ (x : Item). HasNoEntryOf x.entry.slot (entries_of after)) (sym first) none)))
  where
    of_first : HasNoEntryOf item.entry.slot (entries_of items)
        → unhurt (record_at (after_all map records (commands_of (item ∷ items))) item.entry.slot)
        ≡ unhurt (Some (outcome (outcome_on map) (world_of records) item.command).me)
    of_first no_more =
        let c = item.command in
        let live = first_live map place records item items is in
        let slot_is : item.entry.slot ≡ c.slot = ap (λ (e : Entry). e.slot) (entry_is map place records item items is) in
        unhurt_through map (place + 1) (records_after map records c) items item.entry.slot is_map (run_rest map place records item items is_map is) no_more
        ∙ ap (λ (k : ℕ). unhurt (record_at (records_after map records c) k)) slot_is
        ∙ ap unhurt (mover_is map records c is.valid live)
left_through map place records (item ∷ items) (x ∷ before) last after is_map is parts none =
    let first : item ≡ x = cc in
    let rest : items ≡ before ++ last ∷ after = cc in
    left_through map (place + 1) (records_after map records item.command) items before last after is_map (run_rest map place records item items is_map is) rest none
    ∙ ap (λ (w : World). unhurt (Some (outcome (outcome_on map) (run (outcome_on map) w before) last.command).me)) (world_next map place records item items is_map is)
    ∙ ap (λ (y : Item). unhurt (Some (outcome (outcome_on map) (run (outcome_on map) (world_of records) (y ∷ before)) last.command).me)) first

-- ---- a frame

module _ (map : MapView) (frame : ℕ) (state : State) (arrivals : List Arrival) (journal : List Entry) (is_map : IsMap map) (is : IsServerState map state) where
  abbrev r : Receiving
  r = received_in map frame state arrivals

  abbrev items : List Item
  items = history_of r.lists.moves journal

  pass : IsReception map r
  pass = received_is map frame state arrivals is_map is

  records_are : (moved_by map r journal).records ≡ after_all map r.state.records (commands_of items)
  records_are = after_all-are map r.state.records (commands_of items) is_map pass.state.fits.valid (history_has (HasLivePlayer r.state.records) r.lists.moves journal pass.live)

  things_in : IsRightAfter map r journal → (id : ℕ) → 64 ≤ id
      → unhurt (record_at (moved_by map r journal).records id) ≡ unhurt (record_at r.state.records id)
  things_in right id high =
      let runs = journal_runs map r journal pass right in
      ap (λ (records : List (Option Rec)). unhurt (record_at records id)) records_are
      ∙ unhurt_through map 0 r.state.records items id is_map runs (no_thing_moves map 0 r.state.records items id is_map runs high)

  ungot_in : IsRightAfter map r journal → (id : ℕ) → 64 ≤ id → NobodyGot id journal
      → record_at (moved_by map r journal).records id ≡ record_at r.state.records id
  ungot_in right id high ungot =
      let runs = journal_runs map r journal pass right in
      ap (λ (records : List (Option Rec)). record_at records id) records_are
      ∙ unhit_through map 0 r.state.records items id is_map runs (no_thing_moves map 0 r.state.records items id is_map runs high)
      (subst (NobodyGot id) (sym (run_entries map r journal pass right)) ungot)

  players_in : IsRightAfter map r journal → (before : List Item) (item : Item) → IsLastMove items before item
      → unhurt (record_at (moved_by map r journal).records item.entry.slot)
      ≡ unhurt (Some (outcome (outcome_on map) (run (outcome_on map) (world_of r.state.records) before) item.command).me)
  players_in right before item last =
      ap (λ (records : List (Option Rec)). unhurt (record_at records item.entry.slot)) records_are
      ∙ left_through map 0 r.state.records items before item last.after is_map (journal_runs map r journal pass right) last.history_is last.last

pub moves_leave_what_they_made : MovesLeaveWhatTheyMade
moves_leave_what_they_made = record { things = things_in; ungot = ungot_in; players = players_in }
