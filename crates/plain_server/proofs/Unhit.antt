-- Who isn't hit in a right journal, and makes no move, is left as it was.
use Rattle.std.proofs.Common.{◌≡◌, ◌≢◌, ℕ, ◌+◌, List, [], ◌∷◌, Option, refl, sym, ap, ◌∙◌, subst}
use Rattle.std.proofs.lemmas.List.Elements.{All-head, All-tail}
use Rattle.entity_recs.specs.declared.rec.Rec.{Rec}
use Rattle.entity_recs.specs.declared.effect.Entry.{Entry}
use Rattle.entity_recs.specs.Histories.{Item, commands_of}
use Rattle.move_journal.specs.Merges.{history_of}
use Rattle.arena_map.specs.Maps.{MapView, IsMap}
use Rattle.world_tree.specs.Live.{record_at}
use Rattle.plain_server.specs.Moving.{HasLivePlayer, records_after}
use Rattle.plain_server.specs.Ends.{HasNoEntryOf}
use Rattle.plain_server.specs.Frames.{received_in}
use Rattle.plain_server.specs.Hits.{HasNotHit, HasNoHitOn, OnlyHitsHurt}
use Rattle.plain_server.proofs.States.{unhit_stays}
use Rattle.plain_server.proofs.Moves.{after_all, after_all-are}
use Rattle.plain_server.proofs.Commands.{history_has}
use Rattle.plain_server.proofs.Runs.{entries_of, IsRun, first_live, entry_is, run_rest, journal_runs, run_entries}
use Rattle.plain_server.proofs.Frames.{received_is}

-- in a history that runs
pub unhit_through : (map : MapView) (place : ℕ) (records : List (Option Rec)) (items : List Item) (slot : ℕ) → IsMap map → IsRun map place records items
    → HasNoEntryOf slot (entries_of items) → HasNoHitOn slot (entries_of items) → record_at (after_all map records (commands_of items)) slot ≡ record_at records slot
unhit_through map place records [] slot is_map is none unhit = refl
unhit_through map place records (item ∷ items) slot is_map is none unhit =
    let c = item.command in
    let entry = entry_is map place records item items is in
    let here = All-head (λ (e : Entry). e.slot ≢ slot) item.entry (entries_of items) none in
    let missed = subst (HasNotHit slot) entry (All-head (HasNotHit slot) item.entry (entries_of items) unhit) in
    unhit_through map (place + 1) (records_after map records c) items slot is_map (run_rest map place records item items is_map is)
    (All-tail (λ (e : Entry). e.slot ≢ slot) item.entry (entries_of items) none)
    (All-tail (HasNotHit slot) item.entry (entries_of items) unhit)
    ∙ unhit_stays map records c is.valid (first_live map place records item items is) slot (λ same. here (ap (λ (e : Entry). e.slot) entry ∙ sym same)) missed

pub only_hits_hurt : OnlyHitsHurt
only_hits_hurt map frame state arrivals journal is_map is right slot none unhit =
    let r = received_in map frame state arrivals in
    let pass = received_is map frame state arrivals is_map is in
    let items = history_of r.lists.moves journal in
    let entries = run_entries map r journal pass right in
    ap (λ (records : List (Option Rec)). record_at records slot)
    (after_all-are map r.state.records (commands_of items) is_map pass.state.fits.valid (history_has (HasLivePlayer r.state.records) r.lists.moves journal pass.live))
    ∙ unhit_through map 0 r.state.records items slot is_map (journal_runs map r journal pass right)
    (subst (HasNoEntryOf slot) (sym entries) none) (subst (HasNoHitOn slot) (sym entries) unhit)
