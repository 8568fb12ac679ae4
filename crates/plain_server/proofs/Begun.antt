-- The states with which players begin a frame: those that they had, and none for one that has just joined.
use Rattle.std.proofs.Common.{◌≡◌, ◌⊎◌, ℕ, ◌+◌, ◌<◌, false, List, [], ◌∷◌, Option, Some, None, is_some, inl, inr, refl, sym, ap, ◌∙◌}
use Rattle.std.proofs.lemmas.Bool.{cases_eq}
use Rattle.std.proofs.lemmas.Option.{none-some, same_Some}
use Rattle.entity_recs.specs.declared.rec.Rec.{Rec}
use Rattle.arena_map.specs.Maps.{MapView, IsMap}
use Rattle.arena_map.specs.Validity.{IsValidWorld}
use Rattle.world_tree.specs.Live.{record_at}
use Rattle.world_physics.specs.Laws.{has_state}
use Rattle.world_physics.specs.Ticks.{after_tick}
use Rattle.world_physics.proofs.Kept.{ids_stay, only_origins_and_states_change}
use Rattle.packet_read.specs.declared.arrival.Arrival.{Arrival}
use Rattle.client_ports.specs.States.{State, IsServerState}
use Rattle.client_ports.specs.Lists.{no_lists}
use Rattle.client_ports.specs.Newcomers.{HasNewcomer}
use Rattle.client_ports.specs.Receiving.{Receiving, receiving_of, after_arrival, after_arrivals, received}
use Rattle.client_ports.specs.Laws.{IsRefused, IsJoined, IsLeave, IsMove}
use Rattle.client_ports.proofs.Facts.{one_answer}
use Rattle.client_ports.proofs.Newcomers.{joins_add_newcomers}
use Rattle.client_ports.proofs.Staying.{server_next}
use Rattle.plain_server.specs.Frames.{state_after_tick}
use Rattle.plain_server.specs.Hits.{FramesBeginWithStates}
use Rattle.plain_server.proofs.Players.{live_record, slot_is_player}
use Rattle.plain_server.proofs.Ticking.{server_ticked}

-- ---- the tick

-- a player's state is as before
state_ticked : (map : MapView) (frame : ℕ) (records : List (Option Rec)) (slot : ℕ) (old new : Rec) → IsMap map → IsValidWorld map records → slot < 64 → record_at records slot ≡ Some old
    → record_at (after_tick map frame records) slot ≡ Some new → new.state ≡ old.state
state_ticked map frame records slot old new is_map valid below at after =
    (only_origins_and_states_change map frame records slot old new is_map valid at after).state (ap has_state (slot_is_player map slot old (valid.each slot old at) below))

-- and nobody is added
none_ticked : (map : MapView) (frame : ℕ) (records : List (Option Rec)) (slot : ℕ) → record_at records slot ≡ None → record_at (after_tick map frame records) slot ≡ None
none_ticked map frame records slot none = by (record_at (after_tick map frame records) slot) ((ids_stay map frame records).live slot ∙ ap is_some none)
  where
    by : (o : Option Rec) → is_some o ≡ false → o ≡ None
    by None same = refl
    by (Some r) same = cc

-- ---- the packets

-- what holds of the record of an id: it is this one, or one that has just joined
abbrev IsNone : Option Rec → Type 0
IsNone o = (r : Rec) → o ≡ Some r → r.state ≡ 0

module _ (map : MapView) (frame : ℕ) (r : Receiving) (place : ℕ) (a : Arrival) (is : IsServerState map r.state) where
  abbrev next : Receiving
  next = after_arrival map frame r place a

  abbrev IsAnswer : Type 0
  IsAnswer = (IsRefused r next place ⊎ IsJoined map r next a) ⊎ (IsLeave r next a ⊎ IsMove frame r next a)

  newcomer_is : (j : IsJoined map r next a) → HasNewcomer r.state next.state a.port j.to
  newcomer_is j = joins_add_newcomers map frame r place a j.to is j.read j.answer

  -- a packet leaves who is there
  kept_next : (id : ℕ) (x : Rec) → record_at r.state.records id ≡ Some x → record_at next.state.records id ≡ Some x
  kept_next id x at = by (one_answer map frame r place a)
    where
      by : IsAnswer → record_at next.state.records id ≡ Some x
      by (inl (inl f)) = ap (λ (s : State). record_at s.records id) f.state ∙ at
      by (inl (inr j)) =
          let new = newcomer_is j in
          new.other_records id (λ same. none-some x (sym new.record_free ∙ ap (record_at r.state.records) (sym same) ∙ at)) ∙ at
      by (inr (inl l)) = ap (λ (s : State). record_at s.records id) l.state ∙ at
      by (inr (inr m)) = ap (λ (s : State). record_at s.records id) m.state ∙ at

  -- and who joins has no damage
  fresh_next : (id : ℕ) → IsNone (record_at r.state.records id) → IsNone (record_at next.state.records id)
  fresh_next id fresh x at = by (one_answer map frame r place a)
    where
      by : IsAnswer → x.state ≡ 0
      by (inl (inl f)) = fresh x (sym (ap (λ (s : State). record_at s.records id) f.state) ∙ at)
      by (inl (inr j)) =
          let new = newcomer_is j in
          elim (cases_eq id j.to.slot) [
            | inl same ↦
                let one : new.player ≡ x = same_Some new.player x (sym new.live ∙ ap (record_at next.state.records) (sym same) ∙ at) in
                ap (λ (y : Rec). y.state) (sym one) ∙ new.player_is.state
            | inr apart ↦ fresh x (sym (new.other_records id apart) ∙ at)
          ]
      by (inr (inl l)) = fresh x (sym (ap (λ (s : State). record_at s.records id) l.state) ∙ at)
      by (inr (inr m)) = fresh x (sym (ap (λ (s : State). record_at s.records id) m.state) ∙ at)

kept_through : (map : MapView) (frame : ℕ) (r : Receiving) (place : ℕ) (arrivals : List Arrival) (id : ℕ) (x : Rec) → IsMap map → IsServerState map r.state
    → record_at r.state.records id ≡ Some x → record_at (after_arrivals map frame r place arrivals).state.records id ≡ Some x
kept_through map frame r place [] id x is_map is at = at
kept_through map frame r place (a ∷ more) id x is_map is at =
    kept_through map frame (after_arrival map frame r place a) (place + 1) more id x is_map (server_next map frame r place a is_map is) (kept_next map frame r place a is id x at)

fresh_through : (map : MapView) (frame : ℕ) (r : Receiving) (place : ℕ) (arrivals : List Arrival) (id : ℕ) → IsMap map → IsServerState map r.state
    → IsNone (record_at r.state.records id) → IsNone (record_at (after_arrivals map frame r place arrivals).state.records id)
fresh_through map frame r place [] id is_map is fresh = fresh
fresh_through map frame r place (a ∷ more) id is_map is fresh =
    fresh_through map frame (after_arrival map frame r place a) (place + 1) more id is_map (server_next map frame r place a is_map is) (fresh_next map frame r place a is id fresh)

kept_received : (map : MapView) (frame : ℕ) (state : State) (arrivals : List Arrival) (id : ℕ) (x : Rec) → IsMap map → IsServerState map state → record_at state.records id ≡ Some x
    → record_at (received map frame state arrivals).state.records id ≡ Some x
unfolding received
kept_received map frame state arrivals id x is_map is at = kept_through map frame (receiving_of state no_lists) 0 arrivals id x is_map is at

fresh_received : (map : MapView) (frame : ℕ) (state : State) (arrivals : List Arrival) (id : ℕ) → IsMap map → IsServerState map state → record_at state.records id ≡ None
    → IsNone (record_at (received map frame state arrivals).state.records id)
unfolding received
fresh_received map frame state arrivals id is_map is none = fresh_through map frame (receiving_of state no_lists) 0 arrivals id is_map is (λ x at. absurd (none-some x (sym none ∙ at)))

-- ---- a frame

pub frames_begin : FramesBeginWithStates
frames_begin = record {
  kept = λ map frame state arrivals is_map is slot old new below at after.
      let there = live_record (after_tick map frame state.records) slot ((ids_stay map frame state.records).live slot ∙ ap is_some at) in
      let same : there.r ≡ new = same_Some there.r new
      (sym (kept_received map frame (state_after_tick map frame state) arrivals slot there.r is_map (server_ticked map frame state is_map is) there.at) ∙ after) in
      ap (λ (x : Rec). x.state) (sym same) ∙ state_ticked map frame state.records slot old there.r is_map is.fits.valid below at there.at;
  joined = λ map frame state arrivals is_map is slot new none after.
      fresh_received map frame (state_after_tick map frame state) arrivals slot is_map (server_ticked map frame state is_map is) (none_ticked map frame state.records slot none) new after;
}
