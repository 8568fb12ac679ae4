-- The packets of a frame and its end leave the records of the things of the map as they were.
use Rattle.std.proofs.Common.{◌≡◌, ◌≢◌, ◌⊎◌, ℕ, ◌+◌, ◌≤◌, List, [], ◌∷◌, length, Option, Some, None, if◌then◌else◌, inl, inr, refl, ap, ◌∙◌, arith, get_or-set_other}
use Rattle.std.proofs.lemmas.List.{get_or_past, length-set}
use Rattle.entity_recs.specs.declared.rec.Rec.{Rec}
use Rattle.arena_map.specs.Maps.{MapView}
use Rattle.world_tree.specs.Live.{record_at}
use Rattle.packet_read.specs.declared.arrival.Arrival.{Arrival}
use Rattle.client_ports.specs.declared.client.Client.{Client}
use Rattle.client_ports.specs.Clients.{client_at, new_client}
use Rattle.client_ports.specs.States.{State, newcomer, IsServerState}
use Rattle.client_ports.specs.Receiving.{Receiving, receiving_of, after_arrival, after_arrivals, received}
use Rattle.client_ports.specs.Lists.{no_lists}
use Rattle.client_ports.specs.Finishing.{is_leaver, finished}
use Rattle.client_ports.specs.Laws.{IsRefused, IsJoined, IsLeave, IsMove}
use Rattle.client_ports.proofs.Changes.{join-newcomer}
use Rattle.client_ports.proofs.Facts.{one_answer}
use Rattle.client_ports.proofs.Leavers.{leavers_out}
use Rattle.client_ports.proofs.Slots.{client_count}

-- there are 64 slots, and this id has this record
record HasThing (id : ℕ) (place : Option Rec) (state : State) : Type 0 where
  few : length state.clients ≡ 64
  at : record_at state.records id ≡ place

thing-after : (map : MapView) (frame id : ℕ) (thing : Option Rec) (r : Receiving) (place : ℕ) (a : Arrival) → 64 ≤ id → HasThing id thing r.state
    → HasThing id thing (after_arrival map frame r place a).state
thing-after map frame id thing r place a from has = by (one_answer map frame r place a)
  where
    next : Receiving
    next = after_arrival map frame r place a

    by : (IsRefused r next place ⊎ IsJoined map r next a) ⊎ (IsLeave r next a ⊎ IsMove frame r next a) → HasThing id thing next.state
    by (inl (inl f)) = record { few = ap (λ (s : State). length s.clients) f.state ∙ has.few; at = ap (λ (s : State). record_at s.records id) f.state ∙ has.at }
    by (inl (inr j)) =
        let inside = (join-newcomer map r.state a.port j.to j.answer).inside in
        let apart : id ≢ j.to.slot = λ same. absurd (omega (arith, inside, has.few, from, same)) in
        record {
          few = ap (λ (s : State). length s.clients) j.state ∙ length-set r.state.clients j.to.slot (Some (new_client a.port)) ∙ has.few;
          at = ap (λ (s : State). record_at s.records id) j.state ∙ get_or-set_other r.state.records j.to.slot id (Some (newcomer j.to.slot j.to.at)) None apart ∙ has.at;
        }
    by (inr (inl l)) = record {
      few = ap (λ (s : State). length s.clients) l.state ∙ length-set r.state.clients l.live.slot (Some l.live.client) ∙ has.few;
      at = ap (λ (s : State). record_at s.records id) l.state ∙ has.at;
    }
    by (inr (inr m)) = record {
      few = ap (λ (s : State). length s.clients) m.state ∙ length-set r.state.clients m.live.slot (Some m.live.client) ∙ has.few;
      at = ap (λ (s : State). record_at s.records id) m.state ∙ has.at;
    }

thing-through : (map : MapView) (frame id : ℕ) (thing : Option Rec) (r : Receiving) (place : ℕ) (arrivals : List Arrival) → 64 ≤ id → HasThing id thing r.state
    → HasThing id thing (after_arrivals map frame r place arrivals).state
thing-through map frame id thing r place [] from has = has
thing-through map frame id thing r place (a ∷ more) from has =
    thing-through map frame id thing (after_arrival map frame r place a) (place + 1) more from (thing-after map frame id thing r place a from has)

-- the packets of a frame leave the record of a thing
pub things_received : (map : MapView) (frame id : ℕ) (state : State) (arrivals : List Arrival) → 64 ≤ id → IsServerState map state
    → record_at (received map frame state arrivals).state.records id ≡ record_at state.records id
unfolding received
things_received map frame id state arrivals from is =
    (thing-through map frame id (record_at state.records id) (receiving_of state no_lists) 0 arrivals from (record { few = client_count state.clients is.clients.slots; at = refl })).at

-- and so does its end
pub things_finished : (map : MapView) (id : ℕ) (state : State) → 64 ≤ id → IsServerState map state → record_at (finished state).records id ≡ record_at state.records id
things_finished map id state from is =
    let few = client_count state.clients is.clients.slots in
    let none : client_at state.clients id ≡ None = get_or_past state.clients id None (omega (arith, from, few)) in
    (leavers_out state few is.places id).1 ∙ ap (λ (c : Option Client). if is_leaver c then None else record_at state.records id) none
