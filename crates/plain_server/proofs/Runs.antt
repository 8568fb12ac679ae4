-- Histories that run from records by id: the entry of each item, and what the rest of it runs from.
use Rattle.std.specs.Prelude.{◌≡◌, ℕ, ◌+◌, List, [], ◌∷◌, All, Option}
use Rattle.std.specs.Prelude.{map as map_list}
use Rattle.std.proofs.Common.{sym, subst}
use Rattle.std.proofs.lemmas.List.Elements.{All-head, All-tail, All-weaker}
use Rattle.entity_recs.specs.declared.rec.Rec.{Rec}
use Rattle.entity_recs.specs.declared.effect.Entry.{Entry}
use Rattle.entity_recs.specs.Worlds.{World}
use Rattle.entity_recs.specs.Histories.{Item, commands_of, entry_of}
use Rattle.move_journal.specs.Merges.{history_of}
use Rattle.move_journal.proofs.Orders.{IsLegalFrom}
use Rattle.move_journal.proofs.Uniques.{first_entry, legal_after, legal_at_first}
use Rattle.move_journal.proofs.JournalLaws.{merges_have_whole_histories}
use Rattle.arena_map.specs.Maps.{MapView, IsMap}
use Rattle.arena_map.specs.Validity.{IsValidWorld}
use Rattle.arena_outcomes.specs.Outcomes.{outcome_on}
use Rattle.client_ports.specs.Receiving.{Receiving}
use Rattle.plain_server.specs.RecordsById.{world_of}
use Rattle.plain_server.specs.Moving.{HasLivePlayer, effect_among, records_after}
use Rattle.plain_server.specs.Entries.{IsReception}
use Rattle.plain_server.specs.Frames.{IsRightAfter}
use Rattle.plain_server.proofs.Moves.{moved-none, moved-more, still-live}
use Rattle.plain_server.proofs.Commands.{history_has}

-- the entries of a history
abbrev pub entries_of : List Item → List Entry
entries_of items = map_list (λ (item : Item). item.entry) items

-- a history of live players' commands that is legal from this place on in the world of records
pub record IsRun (map : MapView) (place : ℕ) (records : List (Option Rec)) (items : List Item) : Type 0 where
  pub valid : IsValidWorld map records
  pub live : All (HasLivePlayer records) (commands_of items)
  pub legal : IsLegalFrom (outcome_on map) place (world_of records) items

-- the player of its first command is live
pub first_live : (map : MapView) (place : ℕ) (records : List (Option Rec)) (item : Item) (items : List Item) → IsRun map place records (item ∷ items) → HasLivePlayer records item.command
first_live map place records item items is = All-head (HasLivePlayer records) item.command (commands_of items) is.live

-- its first entry is that of its command
pub entry_is : (map : MapView) (place : ℕ) (records : List (Option Rec)) (item : Item) (items : List Item) → IsRun map place records (item ∷ items)
    → item.entry ≡ entry_of place item.command (effect_among map records item.command)
entry_is map place records item items is = first_entry (outcome_on map) place (world_of records) item.command item.entry items is.legal

-- the rest runs from the next place, in the records after that command
pub run_rest : (map : MapView) (place : ℕ) (records : List (Option Rec)) (item : Item) (items : List Item) → IsMap map → IsRun map place records (item ∷ items)
    → IsRun map (place + 1) (records_after map records item.command) items
run_rest map place records item items is_map is =
    let c = item.command in
    let more = moved-more map records records [] c is_map (first_live map place records item items is) (moved-none map records is.valid) in
    record {
      valid = more.valid;
      live = All-weaker (HasLivePlayer records) (HasLivePlayer (records_after map records c)) (λ d has. still-live map records (records_after map records c) (c ∷ []) d more has) (commands_of items)
          (All-tail (HasLivePlayer records) c (commands_of items) is.live);
      legal = subst (λ (w : World). IsLegalFrom (outcome_on map) (place + 1) w items) (sym more.world) (legal_after (outcome_on map) place (world_of records) c item.entry items is.legal);
    }

-- the history of a right journal of what was received runs from the records there
pub journal_runs : (map : MapView) (r : Receiving) (journal : List Entry) → IsReception map r → IsRightAfter map r journal → IsRun map 0 r.state.records (history_of r.lists.moves journal)
journal_runs map r journal is right = record {
  valid = is.state.fits.valid;
  live = history_has (HasLivePlayer r.state.records) r.lists.moves journal is.live;
  legal = legal_at_first (outcome_on map) (world_of r.state.records) (history_of r.lists.moves journal) right.legal;
}

-- and its entries are the journal's
pub run_entries : (map : MapView) (r : Receiving) (journal : List Entry) → IsReception map r → IsRightAfter map r journal → entries_of (history_of r.lists.moves journal) ≡ journal
run_entries map r journal is right = (merges_have_whole_histories r.lists.moves journal is.apart right.merge).entries
