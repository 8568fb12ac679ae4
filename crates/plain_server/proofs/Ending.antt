-- Where moves leave the players: the mover is where its reply says, and nobody else moves.
use Rattle.std.proofs.Common.{◌≡◌, ◌≢◌, ℕ, ◌+◌, ◌<◌, if◌then◌else◌, Bool, true, false, List, [], ◌∷◌, ◌++◌, Option, Some, None, refl, sym, ap, ◌∙◌, subst, arith, get_or-set_same, get_or-set_other}
use Rattle.std.specs.Option.{option_map}
use Rattle.std.proofs.lemmas.List.Elements.{All-head, All-tail, All-weaker}
use Rattle.std.proofs.lemmas.Option.{none-some, same_Some}
use Rattle.std.proofs.lemmas.Bool.{cond-true, cond-false}
use Rattle.entity_recs.specs.declared.rec.Rec.{Rec}
use Rattle.entity_recs.specs.declared.kind.Kind.{Kind}
use Rattle.entity_recs.specs.declared.kind.Kind.TheVariants.{Player, Ammo, Gem}
use Rattle.entity_recs.specs.declared.effect.Effect.{Effect}
use Rattle.entity_recs.specs.declared.effect.Entry.{Entry}
use Rattle.entity_recs.specs.declared.effect.NewState.{NewState}
use Rattle.entity_recs.specs.Records.{with_state}
use Rattle.entity_recs.specs.Commands.{Command}
use Rattle.entity_recs.specs.Worlds.{others_of, record_or_nobody}
use Rattle.entity_recs.specs.Histories.{Item, entry_of, commands_of, with_new_state}
use Rattle.entity_recs.specs.Kinds.{is_item}
use Rattle.move_journal.specs.Merges.{history_of}
use Rattle.arena_map.specs.Maps.{MapView, IsMap}
use Rattle.arena_map.specs.Validity.{IsValidWorld}
use Rattle.arena_outcomes.proofs.OnMaps.{stay_movers}
use Rattle.world_tree.specs.Live.{record_at}
use Rattle.world_tree.proofs.LiveRecords.{live_below}
use Rattle.packet_read.specs.declared.arrival.Arrival.{Arrival}
use Rattle.client_ports.specs.Clients.{client_at}
use Rattle.client_ports.specs.States.{State, IsServerState}
use Rattle.client_ports.specs.Receiving.{Receiving}
use Rattle.client_ports.specs.Finishing.{is_leaver}
use Rattle.client_ports.proofs.Leavers.{leavers_out}
use Rattle.client_ports.proofs.Slots.{client_count}
use Rattle.plain_server.specs.RecordsById.{world_of}
use Rattle.plain_server.specs.Moving.{HasLivePlayer, effect_among, with_new_states, records_after}
use Rattle.plain_server.specs.Entries.{IsReception}
use Rattle.plain_server.specs.Frames.{received_in, moved_by, state_after, IsRightAfter}
use Rattle.plain_server.specs.Ends.{HasNoEntryOf, IsLastEntry, IsAsReported, unhurt}
use Rattle.plain_server.specs.Laws.{FramesEndWithTheirMoves}
use Rattle.plain_server.proofs.Players.{live_record, slot_is_player}
use Rattle.plain_server.proofs.NewStates.{restated, record_at-restated, count-restated, Lacks, new_state-lacks}
use Rattle.plain_server.proofs.Takes.{IsChange, Takes, Hurts, changed_in}
use Rattle.plain_server.proofs.Moves.{after_all, after_all-are}
use Rattle.plain_server.proofs.Commands.{history_has}
use Rattle.plain_server.proofs.Runs.{entries_of, IsRun, first_live, entry_is, run_rest, journal_runs, run_entries}
use Rattle.plain_server.proofs.Frames.{received_is, moved_by_is}

-- ---- but for the state

-- a record with a new state is the same but for it
restated_unhurt : (states : List NewState) (o : Option Rec) → unhurt (option_map (λ (x : Rec). with_new_state states x.id x) o) ≡ unhurt o
restated_unhurt states None = refl
restated_unhurt states (Some r) = ap (λ (x : Rec). Some (with_state x 0)) (restated states r.id r).is

-- a record that is the same as another one but for the state
record IsFoundUnhurt (o : Option Rec) (r : Rec) : Type 0 where
  now : Rec
  at : o ≡ Some now
  same : with_state now 0 ≡ with_state r 0

found_unhurt : (o : Option Rec) (r : Rec) → unhurt o ≡ unhurt (Some r) → IsFoundUnhurt o r
found_unhurt None r is = absurd (none-some (with_state r 0) is)
found_unhurt (Some now) r is = record { now = now; at = refl; same = same_Some (with_state now 0) (with_state r 0) is }

-- ---- one command

not_item : (kind : Kind) → kind ≡ Player → is_item kind ≡ true → ⊥
not_item Ammo same item = cc
not_item Gem same item = cc
not_item kind same item = cc

module _ (map : MapView) (records : List (Option Rec)) (c : Command) (valid : IsValidWorld map records) (has : HasLivePlayer records c) where
  abbrev e : Effect
  e = effect_among map records c

  own : (id : ℕ) (r : Rec) → record_at records id ≡ Some r → r.id ≡ id
  own id r at = (valid.each id r at).own_id

  -- no player gets a new state where nobody shoots
  lacks : (slot : ℕ) (r : Rec) → map.shots ≡ false → slot < 64 → record_at records slot ≡ Some r → Lacks e.states slot
  lacks slot r none below at = All-weaker (IsChange map records c.frame) (λ (s : NewState). s.id ≢ slot) other e.states (changed_in map records c own)
    where
      true_false : (b : Bool) → b ≡ true → b ≡ false → ⊥
      true_false b t f = cc

      other : (s : NewState) → IsChange map records c.frame s → s.id ≢ slot
      other s (Takes item) same =
          let one : item.item ≡ r = same_Some item.item r (sym item.at ∙ ap (record_at records) same ∙ at) in
          not_item item.item.kind (ap (λ (x : Rec). x.kind) one ∙ slot_is_player map slot r (valid.each slot r at) below) item.kind
      other s (Hurts h) same = true_false map.shots h.shots none

  -- so its record is as it was before the mover's is put in
  as_before : (slot : ℕ) → map.shots ≡ false → slot < 64 → record_at (with_new_states e.states records) slot ≡ record_at records slot
  as_before slot none below = by (record_at records slot) refl
    where
      by : (o : Option Rec) → record_at records slot ≡ o → record_at (with_new_states e.states records) slot ≡ record_at records slot
      by None at = record_at-restated e.states records slot ∙ ap (option_map (λ (x : Rec). with_new_state e.states x.id x)) at ∙ sym at
      by (Some r) at =
          record_at-restated e.states records slot
          ∙ ap (option_map (λ (x : Rec). with_new_state e.states x.id x)) at
          ∙ ap (λ (k : ℕ). Some (with_new_state e.states k r)) (own slot r at)
          ∙ ap Some (new_state-lacks e.states slot r (lacks slot r none below at))
          ∙ sym at

  -- nobody else changes where nobody shoots
  pub others_stay : (slot : ℕ) → map.shots ≡ false → slot < 64 → c.slot ≢ slot → record_at (records_after map records c) slot ≡ record_at records slot
  others_stay slot none below apart =
      get_or-set_other (with_new_states e.states records) c.slot slot (Some e.me) None (λ same. apart (sym same)) ∙ as_before slot none below

  -- but for its state, nobody else changes
  pub others_stay_unhurt : (slot : ℕ) → c.slot ≢ slot → unhurt (record_at (records_after map records c) slot) ≡ unhurt (record_at records slot)
  others_stay_unhurt slot apart =
      ap unhurt (get_or-set_other (with_new_states e.states records) c.slot slot (Some e.me) None (λ same. apart (sym same)) ∙ record_at-restated e.states records slot)
      ∙ restated_unhurt e.states (record_at records slot)

  -- the mover's record is that of the effect
  pub mover_is : record_at (records_after map records c) c.slot ≡ Some e.me
  mover_is =
      let found = live_record records c.slot has.live in
      let below = live_below records c.slot found.r found.at in
      get_or-set_same (with_new_states e.states records) c.slot (Some e.me) None (omega (arith, below, count-restated e.states records))

  -- it is where the reply says, after this number
  pub mover_origin : e.me.origin ≡ e.reply.origin
  mover_origin = sym (stay_movers map (record_or_nobody (record_at records c.slot)) (others_of (world_of records) c.slot) c).origin

  pub mover_seq : e.me.seq ≡ c.seq
  mover_seq = (stay_movers map (record_or_nobody (record_at records c.slot)) (others_of (world_of records) c.slot) c).seq

-- ---- a history that runs

-- players without an entry stay as they are where nobody shoots
pub unmoved_through : (map : MapView) (place : ℕ) (records : List (Option Rec)) (items : List Item) (slot : ℕ) → IsMap map → map.shots ≡ false → IsRun map place records items → slot < 64
    → HasNoEntryOf slot (entries_of items) → record_at (after_all map records (commands_of items)) slot ≡ record_at records slot
unmoved_through map place records [] slot is_map plain is below none = refl
unmoved_through map place records (item ∷ items) slot is_map plain is below none =
    let c = item.command in
    let here = All-head (λ (e : Entry). e.slot ≢ slot) item.entry (entries_of items) none in
    let slot_is : item.entry.slot ≡ c.slot = ap (λ (e : Entry). e.slot) (entry_is map place records item items is) in
    unmoved_through map (place + 1) (records_after map records c) items slot is_map plain (run_rest map place records item items is_map is) below
    (All-tail (λ (e : Entry). e.slot ≢ slot) item.entry (entries_of items) none)
    ∙ others_stay map records c is.valid (first_live map place records item items is) slot plain below (λ same. here (slot_is ∙ same))

-- and everywhere but for their state
pub unhurt_through : (map : MapView) (place : ℕ) (records : List (Option Rec)) (items : List Item) (slot : ℕ) → IsMap map → IsRun map place records items
    → HasNoEntryOf slot (entries_of items) → unhurt (record_at (after_all map records (commands_of items)) slot) ≡ unhurt (record_at records slot)
unhurt_through map place records [] slot is_map is none = refl
unhurt_through map place records (item ∷ items) slot is_map is none =
    let c = item.command in
    let here = All-head (λ (e : Entry). e.slot ≢ slot) item.entry (entries_of items) none in
    let slot_is : item.entry.slot ≡ c.slot = ap (λ (e : Entry). e.slot) (entry_is map place records item items is) in
    unhurt_through map (place + 1) (records_after map records c) items slot is_map (run_rest map place records item items is_map is)
    (All-tail (λ (e : Entry). e.slot ≢ slot) item.entry (entries_of items) none)
    ∙ others_stay_unhurt map records c is.valid (first_live map place records item items is) slot (λ same. here (slot_is ∙ same))

-- a player is where its last entry reports it
pub moved_through : (map : MapView) (place : ℕ) (records : List (Option Rec)) (items : List Item) (before : List Entry) (e : Entry) (after : List Entry) → IsMap map
    → IsRun map place records items → entries_of items ≡ before ++ e ∷ after → HasNoEntryOf e.slot after → IsAsReported (after_all map records (commands_of items)) e
moved_through map place records [] [] e after is_map is parts last = cc
moved_through map place records [] (x ∷ before) e after is_map is parts last = cc
moved_through map place records (item ∷ items) [] e after is_map is parts last =
    let c = item.command in
    let first : item.entry ≡ e = cc in
    let rest : entries_of items ≡ after = cc in
    let effect = effect_among map records c in
    let live = first_live map place records item items is in
    let of : e ≡ entry_of place c effect = sym first ∙ entry_is map place records item items is in
    let slot_is : e.slot ≡ c.slot = ap (λ (x : Entry). x.slot) of in
    let below : e.slot < 64 = omega (arith, slot_is, live.slot) in
    let there =
    found_unhurt (record_at (after_all map (records_after map records c) (commands_of items)) e.slot) effect.me
    (unhurt_through map (place + 1) (records_after map records c) items e.slot is_map (run_rest map place records item items is_map is) (subst (HasNoEntryOf e.slot) (sym rest) last)
    ∙ ap (λ (k : ℕ). unhurt (record_at (records_after map records c) k)) slot_is
    ∙ ap unhurt (mover_is map records c is.valid live)) in
    record {
      slot = below;
      now = there.now;
      live = there.at;
      origin = ap (λ (x : Rec). x.origin) there.same ∙ mover_origin map records c is.valid live ∙ sym (ap (λ (x : Entry). x.reply.origin) of);
      seq = ap (λ (x : Rec). x.seq) there.same ∙ mover_seq map records c is.valid live ∙ sym (ap (λ (x : Entry). x.seq) of);
    }
moved_through map place records (item ∷ items) (x ∷ before) e after is_map is parts last =
    let rest : entries_of items ≡ before ++ e ∷ after = cc in
    moved_through map (place + 1) (records_after map records item.command) items before e after is_map (run_rest map place records item items is_map is) rest last

-- ---- a frame

module _ (map : MapView) (frame : ℕ) (state : State) (arrivals : List Arrival) (journal : List Entry) (is_map : IsMap map) (is : IsServerState map state) where
  abbrev r : Receiving
  r = received_in map frame state arrivals

  abbrev items : List Item
  items = history_of r.lists.moves journal

  pass : IsReception map r
  pass = received_is map frame state arrivals is_map is

  records_are : (moved_by map r journal).records ≡ after_all map r.state.records (commands_of items)
  records_are = after_all-are map r.state.records (commands_of items) is_map pass.state.fits.valid (history_has (HasLivePlayer r.state.records) r.lists.moves journal pass.live)

  pub moved_in : IsRightAfter map r journal → (e : Entry) → IsLastEntry journal e → IsAsReported (moved_by map r journal).records e
  moved_in right e last =
      subst (λ (records : List (Option Rec)). IsAsReported records e) (sym records_are)
      (moved_through map 0 r.state.records items last.before e last.after is_map (journal_runs map r journal pass right) (run_entries map r journal pass right ∙ last.journal_is) last.last)

  pub unmoved_in : map.shots ≡ false → IsRightAfter map r journal → (slot : ℕ) → slot < 64 → HasNoEntryOf slot journal
      → record_at (moved_by map r journal).records slot ≡ record_at r.state.records slot
  unmoved_in plain right slot below none =
      ap (λ (records : List (Option Rec)). record_at records slot) records_are
      ∙ unmoved_through map 0 r.state.records items slot is_map plain (journal_runs map r journal pass right) below
      (subst (HasNoEntryOf slot) (sym (run_entries map r journal pass right)) none)

  pub unhurt_in : IsRightAfter map r journal → (slot : ℕ) → slot < 64 → HasNoEntryOf slot journal
      → unhurt (record_at (moved_by map r journal).records slot) ≡ unhurt (record_at r.state.records slot)
  unhurt_in right slot below none =
      ap (λ (records : List (Option Rec)). unhurt (record_at records slot)) records_are
      ∙ unhurt_through map 0 r.state.records items slot is_map (journal_runs map r journal pass right) (subst (HasNoEntryOf slot) (sym (run_entries map r journal pass right)) none)

  -- the record of an id for the next frame
  left : (id : ℕ) → record_at (state_after map r journal).records id ≡ (if is_leaver (client_at r.state.clients id) then None else record_at (moved_by map r journal).records id)
  left id =
      let after = moved_by_is map r journal is_map pass in
      (leavers_out (moved_by map r journal) (client_count r.state.clients after.clients.slots) after.places id).1

  pub kept_in : (id : ℕ) → is_leaver (client_at r.state.clients id) ≡ false → record_at (state_after map r journal).records id ≡ record_at (moved_by map r journal).records id
  kept_in id stays = left id ∙ cond-false (is_leaver (client_at r.state.clients id)) None (record_at (moved_by map r journal).records id) stays

  pub gone_in : (id : ℕ) → is_leaver (client_at r.state.clients id) ≡ true → record_at (state_after map r journal).records id ≡ None
  gone_in id leaves = left id ∙ cond-true (is_leaver (client_at r.state.clients id)) None (record_at (moved_by map r journal).records id) leaves

pub frames_end : FramesEndWithTheirMoves
frames_end = record { moved = moved_in; unmoved = unhurt_in; untouched = unmoved_in; kept = kept_in; gone = gone_in }
