-- Who took an item in frames with right journals.
use Rattle.std.proofs.Common.{◌≡◌, ℕ, zero, suc, ◌+◌, ◌<◌, ◌≤◌, List, [], ◌∷◌, Option, Some, is_some, slice_get, refl, sym, ap, ◌∙◌, subst, arith}
use Rattle.std.proofs.lemmas.Option.{none-some, same_Some}
use Rattle.entity_recs.specs.declared.rec.Rec.{Rec}
use Rattle.entity_recs.specs.declared.effect.Entry.{Entry}
use Rattle.entity_recs.specs.Histories.{Item, commands_of}
use Rattle.move_journal.specs.Merges.{history_of}
use Rattle.arena_map.specs.Maps.{MapView, IsMap, delay_of}
use Rattle.world_tree.specs.Live.{record_at}
use Rattle.packet_read.specs.declared.arrival.Arrival.{Arrival}
use Rattle.client_ports.specs.States.{State, IsServerState}
use Rattle.client_ports.specs.Receiving.{Receiving}
use Rattle.plain_server.specs.Moving.{HasLivePlayer}
use Rattle.plain_server.specs.Entries.{IsReception}
use Rattle.plain_server.specs.Frames.{state_after_tick, received_in, moved_by, state_after, IsRightAfter, AreRight}
use Rattle.plain_server.specs.Takers.{HasTaken, HasTakenIn, IsItemOf, IsSameEntry, HasOneTaker, HasItemsAway}
use Rattle.plain_server.specs.Laws.{IsGot}
use Rattle.plain_server.proofs.Commands.{history_has}
use Rattle.plain_server.proofs.Moves.{after_all, after_all-are}
use Rattle.plain_server.proofs.Runs.{entries_of, IsRun, journal_runs, run_entries}
use Rattle.plain_server.proofs.OfFrame.{IsOfFrame, moves_are_of_frame}
use Rattle.plain_server.proofs.ThingsStay.{things_received, things_finished}
use Rattle.plain_server.proofs.Ticking.{server_ticked, waits}
use Rattle.plain_server.proofs.Frames.{moved_by_is, received_is, state_after_is}
use Rattle.plain_server.proofs.Away.{IsAway, IsAwayThen, away_is_thing, away_through, nobody_got, got_are_those, got_through, one_got}

-- the record of one place instead of another, where they are the same
away_there : (records other : List (Option Rec)) (id until : ℕ) → record_at other id ≡ record_at records id → IsAway records id until → IsAway other id until
away_there records other id until same away = record { item = away.item; at = same ∙ away.at; kind = away.kind; state = away.state }

-- ---- one frame

module _ (map : MapView) (frame : ℕ) (state : State) (arrivals : List Arrival) (journal : List Entry) (is_map : IsMap map) (is : IsServerState map state)
    (right : IsRightAfter map (received_in map frame state arrivals) journal) where
  abbrev r : Receiving
  r = received_in map frame state arrivals

  abbrev items : List Item
  items = history_of r.lists.moves journal

  pass : IsReception map r
  pass = received_is map frame state arrivals is_map is

  runs : IsRun map 0 r.state.records items
  runs = journal_runs map r journal pass right

  -- the place of an entry in the journal is its place in the history
  in_history : (place : ℕ) (x : Entry) → slice_get journal place ≡ Some x → slice_get (entries_of items) place ≡ Some x
  in_history place x at = ap (λ (js : List Entry). slice_get js place) (run_entries map r journal pass right) ∙ at

  -- the records of things after the frame are those after its moves
  thing_after : (id : ℕ) → 64 ≤ id → record_at (state_after map r journal).records id ≡ record_at (after_all map r.state.records (commands_of items)) id
  thing_after id from =
      things_finished map id (moved_by map r journal) from (moved_by_is map r journal is_map pass)
      ∙ ap (λ (rs : List (Option Rec)). record_at rs id)
      (after_all-are map r.state.records (commands_of items) is_map pass.state.fits.valid (history_has (HasLivePlayer r.state.records) r.lists.moves journal pass.live))

  -- an item that is away until a later frame is away when the moves begin
  away_then : (id until : ℕ) → frame < until → IsAway state.records id until → IsAway r.state.records id until
  away_then id until before away =
      let valid = is.fits.valid in
      let from = away_is_thing map state.records id until valid away in
      let there = waits map frame id away.item state.records is_map valid away.at away.kind (omega (arith, before, away.state)) in
      record {
        item = away.item;
        at = things_received map frame id (state_after_tick map frame state) arrivals from (server_ticked map frame state is_map is) ∙ there;
        kind = away.kind;
        state = away.state;
      }

  -- it stays away
  pub stays_away : (id until : ℕ) → frame < until → IsAway state.records id until → IsAway (state_after map r journal).records id until
  stays_away id until before away =
      let from = away_is_thing map state.records id until is.fits.valid away in
      away_there (after_all map r.state.records (commands_of items)) (state_after map r journal).records id until (thing_after id from)
      (away_through map 0 r.state.records items id until is_map runs (omega (arith, before)) (away_then id until before away))

  -- and no entry has it
  pub not_taken : (id until place : ℕ) → frame < until → IsAway state.records id until → HasTaken journal place id → ⊥
  not_taken id until place before away has =
      nobody_got map 0 r.state.records items id until place has.entry is_map runs (omega (arith, before)) (away_then id until before away) (in_history place has.entry has.in_place) has.got

  -- what an entry has is an item, or a player that was hit
  pub is_got_then : (id place : ℕ) → HasTaken journal place id → IsGot map id
  is_got_then id place has = got_are_those map 0 r.state.records items id place has.entry is_map runs (in_history place has.entry has.in_place) has.got

  -- an item that an entry has is away after the frame
  pub away_later : (id place : ℕ) → IsItemOf map id → HasTaken journal place id → IsAwayThen map (state_after map r journal).records frame id
  away_later id place item has =
      let records = after_all map r.state.records (commands_of items) in
      let of_frame = history_has (IsOfFrame frame) r.lists.moves journal (moves_are_of_frame map frame (state_after_tick map frame state) arrivals) in
      let then_away = got_through map frame 0 r.state.records items id place has.entry is_map item runs of_frame (in_history place has.entry has.in_place) has.got in
      let after : IsServerState map (moved_by map r journal) = moved_by_is map r journal is_map pass in
      let same = after_all-are map r.state.records (commands_of items) is_map pass.state.fits.valid (history_has (HasLivePlayer r.state.records) r.lists.moves journal pass.live) in
      let moved = away_there records (moved_by map r journal).records id (frame + then_away.delay) (ap (λ (rs : List (Option Rec)). record_at rs id) same) then_away.away in
      let from = away_is_thing map (moved_by map r journal).records id (frame + then_away.delay) after.fits.valid moved in
      record {
        delay = then_away.delay;
        delay_is = then_away.delay_is;
        away = away_there records (state_after map r journal).records id (frame + then_away.delay) (thing_after id from) then_away.away;
      }

  -- the frame in which it returns is its state
  pub returns_later : HasItemsAway map frame journal (state_after map r journal).records
  returns_later place id delay has delay_is =
      let then_away = away_later id place (ap is_some delay_is) has in
      let same : then_away.delay ≡ delay = same_Some then_away.delay delay (sym then_away.delay_is ∙ delay_is) in
      record { now = then_away.away.item; at = then_away.away.at; state_is = then_away.away.state ∙ ap (λ (d : ℕ). frame + d) same }

  -- at most one entry has an item
  pub one_taker : HasOneTaker map journal
  one_taker place other id item one also =
      one_got map 0 r.state.records items id place other one.entry also.entry is_map item runs (in_history place one.entry one.in_place) (in_history other also.entry also.in_place) one.got also.got

-- ---- all frames

-- what an entry of the first frame took
taken_first : (j : List Entry) (js : List (List Entry)) (place id : ℕ) → HasTakenIn (j ∷ js) 0 place id → HasTaken j place id
taken_first j js place id has = subst (λ (k : List Entry). HasTaken k place id) (sym (same_Some j has.journal has.of_frame)) has.taken

-- and one of a later frame
taken_later : (j : List Entry) (js : List (List Entry)) (frame place id : ℕ) → HasTakenIn (j ∷ js) (suc frame) place id → HasTakenIn js frame place id
taken_later j js frame place id has = record { journal = has.journal; of_frame = has.of_frame; taken = has.taken }

pub only_got : (map : MapView) (frame : ℕ) (state : State) (frames : List (List Arrival)) (journals : List (List Entry)) → IsMap map → IsServerState map state
    → AreRight map frame state frames journals → (n place id : ℕ) → HasTakenIn journals n place id → IsGot map id
only_got map frame state [] [] is_map is right n place id has = absurd (none-some has.journal has.of_frame)
only_got map frame state [] (j ∷ js) is_map is right n place id has = absurd right
only_got map frame state (arrivals ∷ frames) [] is_map is right n place id has = absurd right
only_got map frame state (arrivals ∷ frames) (j ∷ js) is_map is right zero place id has =
    is_got_then map frame state arrivals j is_map is right.0 id place (taken_first j js place id has)
only_got map frame state (arrivals ∷ frames) (j ∷ js) is_map is right (suc n) place id has =
    let r = received_in map frame state arrivals in
    only_got map (frame + 1) (state_after map r j) frames js is_map (state_after_is map r j is_map (received_is map frame state arrivals is_map is)) right.1 n place id
    (taken_later j js n place id has)

pub one_in_each : (map : MapView) (frame : ℕ) (state : State) (frames : List (List Arrival)) (journals : List (List Entry)) → IsMap map → IsServerState map state
    → AreRight map frame state frames journals → (n place other id : ℕ) → IsItemOf map id → HasTakenIn journals n place id → HasTakenIn journals n other id → other ≡ place
one_in_each map frame state [] [] is_map is right n place other id item has also = absurd (none-some has.journal has.of_frame)
one_in_each map frame state [] (j ∷ js) is_map is right n place other id item has also = absurd right
one_in_each map frame state (arrivals ∷ frames) [] is_map is right n place other id item has also = absurd right
one_in_each map frame state (arrivals ∷ frames) (j ∷ js) is_map is right zero place other id item has also =
    one_taker map frame state arrivals j is_map is right.0 place other id item (taken_first j js place id has) (taken_first j js other id also)
one_in_each map frame state (arrivals ∷ frames) (j ∷ js) is_map is right (suc n) place other id item has also =
    let r = received_in map frame state arrivals in
    one_in_each map (frame + 1) (state_after map r j) frames js is_map (state_after_is map r j is_map (received_is map frame state arrivals is_map is)) right.1 n place other id item
    (taken_later j js n place id has) (taken_later j js n other id also)

-- an item that is away isn't taken before its frame
away_in_all : (map : MapView) (frame : ℕ) (state : State) (frames : List (List Arrival)) (journals : List (List Entry)) (id until : ℕ) → IsMap map → IsServerState map state
    → AreRight map frame state frames journals → IsAway state.records id until → (n place : ℕ) → frame + n < until → HasTakenIn journals n place id → ⊥
away_in_all map frame state [] [] id until is_map is right away n place before has = absurd (none-some has.journal has.of_frame)
away_in_all map frame state [] (j ∷ js) id until is_map is right away n place before has = absurd right
away_in_all map frame state (arrivals ∷ frames) [] id until is_map is right away n place before has = absurd right
away_in_all map frame state (arrivals ∷ frames) (j ∷ js) id until is_map is right away zero place before has =
    not_taken map frame state arrivals j is_map is right.0 id until place (omega (arith, before)) away (taken_first j js place id has)
away_in_all map frame state (arrivals ∷ frames) (j ∷ js) id until is_map is right away (suc n) place before has =
    let r = received_in map frame state arrivals in
    away_in_all map (frame + 1) (state_after map r j) frames js id until is_map (state_after_is map r j is_map (received_is map frame state arrivals is_map is)) right.1
    (stays_away map frame state arrivals j is_map is right.0 id until (omega (arith, before)) away) n place (omega (arith, before)) (taken_later j js n place id has)

pub stay_away : (map : MapView) (frame : ℕ) (state : State) (frames : List (List Arrival)) (journals : List (List Entry)) → IsMap map → IsServerState map state
    → AreRight map frame state frames journals → (n place later other id delay : ℕ) → delay_of map id ≡ Some delay → HasTakenIn journals n place id → HasTakenIn journals later other id
    → n ≤ later → later < n + delay → IsSameEntry n place later other
stay_away map frame state [] [] is_map is right n place later other id delay delay_is has also from before = absurd (none-some has.journal has.of_frame)
stay_away map frame state [] (j ∷ js) is_map is right n place later other id delay delay_is has also from before = absurd right
stay_away map frame state (arrivals ∷ frames) [] is_map is right n place later other id delay delay_is has also from before = absurd right
stay_away map frame state (arrivals ∷ frames) (j ∷ js) is_map is right zero place zero other id delay delay_is has also from before = record {
  frame_is = refl;
  place_is = one_taker map frame state arrivals j is_map is right.0 place other id (ap is_some delay_is) (taken_first j js place id has) (taken_first j js other id also);
}
stay_away map frame state (arrivals ∷ frames) (j ∷ js) is_map is right zero place (suc later) other id delay delay_is has also from before =
    let r = received_in map frame state arrivals in
    let then_away = away_later map frame state arrivals j is_map is right.0 id place (ap is_some delay_is) (taken_first j js place id has) in
    let same : then_away.delay ≡ delay = same_Some then_away.delay delay (sym then_away.delay_is ∙ delay_is) in
    absurd (away_in_all map (frame + 1) (state_after map r j) frames js id (frame + then_away.delay) is_map
    (state_after_is map r j is_map (received_is map frame state arrivals is_map is)) right.1 then_away.away later other (omega (arith, before, same))
    (taken_later j js later other id also))
stay_away map frame state (arrivals ∷ frames) (j ∷ js) is_map is right (suc n) place zero other id delay delay_is has also from before = absurd (omega (arith, from))
stay_away map frame state (arrivals ∷ frames) (j ∷ js) is_map is right (suc n) place (suc later) other id delay delay_is has also from before =
    let r = received_in map frame state arrivals in
    let rest = stay_away map (frame + 1) (state_after map r j) frames js is_map (state_after_is map r j is_map (received_is map frame state arrivals is_map is)) right.1 n place later other id delay
    delay_is (taken_later j js n place id has) (taken_later j js later other id also) (omega (arith, from)) (omega (arith, before)) in
    record { frame_is = ap suc rest.frame_is; place_is = rest.place_is }
