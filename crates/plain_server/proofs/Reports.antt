-- The entries of a right journal have their places, and are in range.
use Rattle.std.specs.Prelude.{◌≡◌, ℕ, ◌+◌, ◌<◌, ◌^◌, List, [], ◌∷◌, All, Option, Some}
use Rattle.std.specs.Prelude.{Contains}
use Rattle.std.specs.List.{AllByRecursion}
use Rattle.std.proofs.Common.{refl, sym, subst, arith}
use Rattle.std.proofs.lemmas.List.Elements.{All-head, All-tail, All-weaker, All-contains, All-contains_itself, All-from_recursion, recursion_from_All}
use Rattle.arena_geo.specs.Vectors.{IsNear}
use Rattle.entity_recs.specs.declared.rec.Rec.{Rec}
use Rattle.entity_recs.specs.declared.effect.NewState.{NewState}
use Rattle.entity_recs.specs.declared.effect.Entry.{Entry}
use Rattle.entity_recs.specs.Records.{IsRecord}
use Rattle.entity_recs.specs.Commands.{Command}
use Rattle.entity_recs.specs.Worlds.{others_of, record_or_nobody}
use Rattle.entity_recs.specs.Histories.{Item, entry_of, commands_of}
use Rattle.move_journal.specs.Merges.{history_of}
use Rattle.arena_map.specs.Maps.{MapView, IsMap}
use Rattle.arena_map.specs.Validity.{IsValidWorld}
use Rattle.arena_outcomes.proofs.OnMaps.{stay_movers, short_replies}
use Rattle.world_tree.specs.Live.{record_at}
use Rattle.world_tree.proofs.Links.{id-below}
use Rattle.client_ports.specs.Receiving.{Receiving}
use Rattle.plain_server.specs.RecordsById.{world_of}
use Rattle.plain_server.specs.Moving.{HasLivePlayer, HasSmallNumber, effect_among, records_after}
use Rattle.plain_server.specs.Entries.{IsReported, AreReported, IsReception}
use Rattle.plain_server.specs.Frames.{IsRightAfter}
use Rattle.plain_server.proofs.Players.{live_record}
use Rattle.plain_server.proofs.NewStates.{IsOfLive}
use Rattle.plain_server.proofs.Others.{IsOther, others_at, others_rise}
use Rattle.plain_server.proofs.Takes.{ids_of, of_live, got_among}
use Rattle.plain_server.proofs.Moves.{moved_is_valid}
use Rattle.plain_server.proofs.Runs.{entries_of, IsRun, first_live, entry_is, run_rest, journal_runs, run_entries}
use Rattle.plain_server.proofs.Commands.{history_has}

-- the ids of live records have 16 bits
small_ids : (map : MapView) (records : List (Option Rec)) (states : List NewState) → IsValidWorld map records → All (IsOfLive map records) states
    → AllByRecursion (λ id. id < 2 ^ 16) (ids_of states)
small_ids map records [] valid live = tt
small_ids map records (s ∷ states) valid live =
    let own = All-head (IsOfLive map records) s states live in
    let here = valid.each s.id own.owner own.at in
    let below = id-below own.owner here.is_record in
    (omega (arith, below, here.own_id), small_ids map records states valid (All-tail (IsOfLive map records) s states live))

-- what is among numbers of 16 bits has 16 bits
small_among : (ids got : List ℕ) → AllByRecursion (λ id. id < 2 ^ 16) ids → ((id : ℕ) → Contains got id → Contains ids id) → AllByRecursion (λ id. id < 2 ^ 16) got
small_among ids got small among =
    recursion_from_All (λ (id : ℕ). id < 2 ^ 16) got
    (All-weaker (Contains got) (λ (id : ℕ). id < 2 ^ 16) (λ id has. All-contains (λ (id : ℕ). id < 2 ^ 16) ids id (All-from_recursion (λ (id : ℕ). id < 2 ^ 16) ids small) (among id has)) got
    (All-contains_itself got))

-- the other live records are within their bounds
others_are_records : (map : MapView) (records : List (Option Rec)) (slot : ℕ) → IsValidWorld map records → All IsRecord (others_of (world_of records) slot)
others_are_records map records slot valid =
    let own = λ (id : ℕ) (r : Rec) (at : record_at records id ≡ Some r). (valid.each id r at).own_id in
    All-weaker (IsOther records slot) IsRecord (λ r is. (valid.each r.id r is.at).is_record) (others_of (world_of records) slot)
    (All-from_recursion (IsOther records slot) (others_of (world_of records) slot) (others_at records slot own))

-- the entry of a live player's command is in range
pub reported_one : (map : MapView) (records : List (Option Rec)) (place : ℕ) (c : Command) → IsMap map → IsValidWorld map records → HasLivePlayer records c → HasSmallNumber c
    → IsReported place (entry_of place c (effect_among map records c))
reported_one map records place c is_map valid has small =
    let found = live_record records c.slot has.live in
    let me = moved_is_valid map records c found.r is_map valid has.slot found.at in
    let own = λ (id : ℕ) (r : Rec) (at : record_at records id ≡ Some r). (valid.each id r at).own_id in
    let e = effect_among map records c in
    let me_before = record_or_nobody (record_at records c.slot) in
    let others = others_of (world_of records) c.slot in
    let origin : e.reply.origin ≡ e.me.origin = (stay_movers map me_before others c).origin in
    let short = short_replies map me_before others c (others_are_records map records c.slot valid) (others_rise records c.slot own) in
    record {
      place_is = refl;
      slot = has.slot;
      seq = small;
      origin = subst (IsNear 1048576) (sym origin) me.is_record.origin;
      got = record {
        few = short.few;
        rising = short.rising;
        small = small_among (ids_of e.states) e.reply.got (small_ids map records e.states valid (of_live map records c own)) (got_among map records c own);
      };
    }

-- so are the entries of a history of such commands that runs
reported_items : (map : MapView) (place : ℕ) (records : List (Option Rec)) (items : List Item) → IsMap map → IsRun map place records items → All HasSmallNumber (commands_of items)
    → AreReported place (entries_of items)
reported_items map place records [] is_map is small = tt
reported_items map place records (item ∷ items) is_map is small =
    let c = item.command in
    let low = All-head HasSmallNumber c (commands_of items) small in
    let has = first_live map place records item items is in (
      subst (IsReported place) (sym (entry_is map place records item items is)) (reported_one map records place c is_map is.valid has low),
      reported_items map (place + 1) (records_after map records c) items is_map (run_rest map place records item items is_map is)
          (All-tail HasSmallNumber c (commands_of items) small),
    )

-- the entries of a right journal of what was received
pub right_is_reported : (map : MapView) (r : Receiving) (journal : List Entry) → IsMap map → IsReception map r → All HasSmallNumber r.lists.moves
    → IsRightAfter map r journal → AreReported 0 journal
right_is_reported map r journal is_map is small right =
    subst (AreReported 0) (run_entries map r journal is right)
    (reported_items map 0 r.state.records (history_of r.lists.moves journal) is_map (journal_runs map r journal is right) (history_has HasSmallNumber r.lists.moves journal small))
