-- An entry of a right journal hits one player at most.
use Rattle.std.proofs.Common.{ℕ, ◌+◌, List, [], ◌∷◌, Option, sym, subst}
use Rattle.std.specs.Prelude.{All}
use Rattle.std.proofs.lemmas.List.Elements.{All-cons, All-nil}
use Rattle.entity_recs.specs.declared.rec.Rec.{Rec}
use Rattle.entity_recs.specs.Histories.{Item}
use Rattle.move_journal.specs.Merges.{history_of}
use Rattle.arena_map.specs.Maps.{MapView, IsMap}
use Rattle.plain_server.specs.Moving.{records_after}
use Rattle.plain_server.specs.Frames.{received_in}
use Rattle.plain_server.specs.Hits.{HitsOneAtMost, EntriesHitOneAtMost}
use Rattle.plain_server.proofs.States.{one_slot, not_own}
use Rattle.plain_server.proofs.Runs.{entries_of, IsRun, first_live, entry_is, run_rest, journal_runs, run_entries}
use Rattle.plain_server.proofs.Frames.{received_is}

all_hit_one : (map : MapView) (place : ℕ) (records : List (Option Rec)) (items : List Item) → IsMap map → IsRun map place records items → All HitsOneAtMost (entries_of items)
all_hit_one map place records [] is_map is = All-nil HitsOneAtMost
all_hit_one map place records (item ∷ items) is_map is =
    let c = item.command in
    let has = first_live map place records item items is in
    let first : HitsOneAtMost item.entry =
    subst HitsOneAtMost (sym (entry_is map place records item items is)) (record { one = one_slot map records c is.valid has; not_own = not_own map records c is.valid has }) in
    All-cons HitsOneAtMost item.entry (entries_of items) first
    (all_hit_one map (place + 1) (records_after map records c) items is_map (run_rest map place records item items is_map is))

pub entries_hit_one : EntriesHitOneAtMost
entries_hit_one map frame state arrivals journal is_map is right =
    let r = received_in map frame state arrivals in
    let pass = received_is map frame state arrivals is_map is in
    subst (All HitsOneAtMost) (run_entries map r journal pass right)
    (all_hit_one map 0 r.state.records (history_of r.lists.moves journal) is_map (journal_runs map r journal pass right))
