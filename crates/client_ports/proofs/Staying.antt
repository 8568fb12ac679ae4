-- What the packets of a frame and its end keep: ports are apart, the state fits the map, and bodies are clear.
use Rattle.std.proofs.Common.{◌≡◌, ◌⊎◌, ℕ, zero, suc, ◌+◌, ◌<◌, ◌≤◌, Bool, true, false, if◌then◌else◌, List, [], ◌∷◌, All, Option, Some, None, Ok, slice_set, sym, refl, ap, ◌∙◌, subst, inl, inr, arith}
use Rattle.std.specs.List.{find}
use Rattle.std.proofs.lemmas.List.{length-set, set-get_or}
use Rattle.std.proofs.lemmas.List.Elements.{All-head, All-tail}
use Rattle.std.proofs.lemmas.Option.{none-some, same_Some}
use Rattle.arena_geo.specs.Boxes.{overlaps, is_blocked}
use Rattle.arena_geo.proofs.Overlaps.{overlaps-flips}
use Rattle.entity_recs.specs.declared.rec.Rec.{Rec}
use Rattle.entity_recs.specs.Bodies.{body_of}
use Rattle.packet_read.specs.declared.move_packet.MovePacket.{MovePacket}
use Rattle.packet_read.specs.Commands.{commands_of}
use Rattle.entity_slots.specs.FreeSlots.{slot_for}
use Rattle.arena_map.specs.Maps.{MapView, IsMap, IsSpawn, solids_of}
use Rattle.world_tree.specs.Live.{record_at}
use Rattle.packet_read.specs.declared.arrival.Arrival.{Arrival}
use Rattle.client_ports.specs.declared.client.Client.{Client}
use Rattle.client_ports.specs.declared.client.LiveSlot.{LiveSlot}
use Rattle.client_ports.specs.declared.spawns.JoinPoint.{JoinPoint}
use Rattle.client_ports.specs.Clients.{client, client_at, port_of, ports_of, live_slot, new_client, with_client, AreClients, IsUpdate}
use Rattle.client_ports.specs.States.{State, state_of, with_newcomer, with_update, newcomer, IsServerState}
use Rattle.client_ports.specs.FirstRefusals.{join_answer}
use Rattle.client_ports.specs.Finishing.{finished_client, records_after, finished_at, finished_up_to, finished}
use Rattle.client_ports.specs.Receiving.{Receiving, after_arrival, after_arrivals, received}
use Rattle.client_ports.specs.Laws.{IsClear, AreAccepted, IsAcceptedLeave, IsRefused, IsJoined, IsLeave, IsMove}
use Rattle.arena_map.specs.Validity.{AreClear}
use Rattle.client_ports.proofs.Changes.{live-inside, IsNewcomer, join-newcomer}
use Rattle.client_ports.proofs.Facts.{got, join_clear, one_answer}
use Rattle.client_ports.proofs.Live.{live-updated, live-written}
use Rattle.client_ports.proofs.Slots.{client_count, free-are_ports, join-are_ports, read-set, update-are_ports}
use Rattle.client_ports.proofs.Valid.{state-joined, valid-without}

-- ---- ports stay apart

-- where a port joins
clients-join : (clients : List (Option Client)) (port slot : ℕ) → AreClients clients → IsNewcomer clients port slot → AreClients (with_client clients (live_slot slot (new_client port)))
clients-join clients port slot are new =
    (join-are_ports (ports_of clients) clients port slot (record { ports_are = refl; clients_are = are })
    (record { in_range = omega (arith, new.inside, client_count clients are.slots); free = new.free; not_joined = new.not_joined })).clients_are

-- where another client of the same port is put in a slot
clients-update : (clients : List (Option Client)) (live : LiveSlot) → AreClients clients → IsUpdate clients live → AreClients (with_client clients live)
clients-update clients live are is = (update-are_ports (ports_of clients) clients live (record { ports_are = refl; clients_are = are }) is).clients_are

-- where a slot is freed
clients-free : (clients : List (Option Client)) (slot : ℕ) → AreClients clients → AreClients (slice_set clients slot None)
clients-free clients slot are = (free-are_ports (ports_of clients) clients slot (record { ports_are = refl; clients_are = are })).clients_are

-- a client that leaves may be put in its slot
update-leave : (clients : List (Option Client)) (live : LiveSlot) → AreClients clients → IsAcceptedLeave clients live → IsUpdate clients live
update-leave clients live are by = record {
  in_range = omega (arith, live-inside clients live.slot by.was by.in_slot, client_count clients are.slots);
  same_port = ap port_of by.in_slot ∙ ap Some (sym (ap (λ (c : Client). c.port) by.is));
  few_moves = omega (arith, ap (λ (c : Client). c.moves) by.is, are.few_moves live.slot by.was by.in_slot);
}

-- and so one that has moved
update-move : (clients : List (Option Client)) (steps new : List MovePacket) (live : LiveSlot) → AreClients clients → AreAccepted clients steps new live → IsUpdate clients live
update-move clients steps new live are by = record {
  in_range = omega (arith, live-inside clients live.slot by.was by.in_slot, client_count clients are.slots);
  same_port = ap port_of by.in_slot ∙ ap Some (sym (ap (λ (c : Client). c.port) by.is));
  few_moves = omega (arith, ap (λ (c : Client). c.moves) by.is, by.few);
}

-- what a packet changes in the state: nothing, a player that joins, or another client in a live slot
record IsJoin (map : MapView) (before after : State) : Type 0 where
  port : ℕ
  to : JoinPoint
  answer : join_answer map before port ≡ Ok to
  is : after ≡ with_newcomer before port to.slot to.at

record IsSwap (before after : State) : Type 0 where
  live : LiveSlot
  may : AreClients before.clients → IsUpdate before.clients live
  is : after ≡ with_update before live

state-step : (map : MapView) (frame : ℕ) (r : Receiving) (place : ℕ) (a : Arrival) → let after = (after_arrival map frame r place a).state in
    (after ≡ r.state) ⊎ (IsJoin map r.state after ⊎ IsSwap r.state after)
state-step map frame r place a = by (one_answer map frame r place a)
  where
    next : Receiving
    next = after_arrival map frame r place a

    by : (IsRefused r next place ⊎ IsJoined map r next a) ⊎ (IsLeave r next a ⊎ IsMove frame r next a) → (next.state ≡ r.state) ⊎ (IsJoin map r.state next.state ⊎ IsSwap r.state next.state)
    by (inl (inl f)) = inl f.state
    by (inl (inr j)) = inr (inl (record { port = a.port; to = j.to; answer = j.answer; is = j.state }))
    by (inr (inl l)) = inr (inr (record { live = l.live; may = λ are. update-leave r.state.clients l.live are l.accepted; is = l.state }))
    by (inr (inr m)) = inr (inr (record {
      live = m.live;
      may = λ are. update-move r.state.clients (commands_of m.packet) m.new m.live are m.accepted;
      is = m.state;
    }))

clients-after : (map : MapView) (before after : State) → (after ≡ before) ⊎ (IsJoin map before after ⊎ IsSwap before after) → AreClients before.clients → AreClients after.clients
clients-after map before after (inl same) are = subst (λ (s : State). AreClients s.clients) (sym same) are
clients-after map before after (inr (inl j)) are =
    subst (λ (s : State). AreClients s.clients) (sym j.is) (clients-join before.clients j.port j.to.slot are (join-newcomer map before j.port j.to j.answer))
clients-after map before after (inr (inr u)) are = subst (λ (s : State). AreClients s.clients) (sym u.is) (clients-update before.clients u.live are (u.may are))

pub clients-through : (map : MapView) (frame : ℕ) (r : Receiving) (place : ℕ) (arrivals : List Arrival) → AreClients r.state.clients → AreClients (after_arrivals map frame r place arrivals).state.clients
clients-through map frame r place [] are = are
clients-through map frame r place (a ∷ more) are =
    let next = after_arrival map frame r place a in
    clients-through map frame next (place + 1) more (clients-after map r.state next.state (state-step map frame r place a) are)

-- ports stay apart through the packets of a frame
pub clients_received : (map : MapView) (frame : ℕ) (state : State) (arrivals : List Arrival) → AreClients state.clients → AreClients (received map frame state arrivals).state.clients
unfolding received
clients_received map frame state arrivals are = clients-through map frame _ 0 arrivals are

-- ---- the state stays a server's

-- what is found is one of the list
find-all : {X : Type 0} (p : X → Bool) (P : X → Type 0) (xs : List X) (x : X) → find p xs ≡ Some x → All P xs → P x
find-all p P [] x e all = absurd (none-some x e)
find-all {X} p P (y ∷ ys) x e all = by (p y) e (λ f. find-all p P ys x f (All-tail P y ys all))
  where
    by : (b : Bool) → (if b then Some y else find p ys) ≡ Some x → (find p ys ≡ Some x → P x) → P x
    by true f more = subst P (same_Some y x f) (All-head P y ys all)
    by false f more = more f

server-join : (map : MapView) (state : State) (port : ℕ) (to : JoinPoint) → IsMap map → IsServerState map state → join_answer map state port ≡ Ok to → IsServerState map (with_newcomer state port to.slot to.at)
server-join map state port to rules is e =
    let new = join-newcomer map state port to e in
    let few = client_count state.clients is.clients.slots in
    let spawn = find-all _ (IsSpawn map.bounds) map.spawns to.at (got map state.records (slot_for (ports_of state.clients) port) to e).spawn rules.spawns in
    record {
      clients = clients-join state.clients port to.slot is.clients new;
      places = length-set state.records to.slot (Some (newcomer to.slot to.at)) ∙ is.places;
      fits = state-joined map state.clients state.records port to.slot to.at few is.places (omega (arith, new.inside, few)) spawn is.fits;
    }

server-update : (map : MapView) (state : State) (live : LiveSlot) → IsUpdate state.clients live → IsServerState map state → IsServerState map (with_update state live)
server-update map state live may is = record {
  clients = clients-update state.clients live is.clients may;
  places = is.places;
  fits = record { live = live-updated state.clients state.records live (client_count state.clients is.clients.slots) may is.fits.live; valid = is.fits.valid };
}

server-after : (map : MapView) (before after : State) → (after ≡ before) ⊎ (IsJoin map before after ⊎ IsSwap before after) → IsMap map → IsServerState map before → IsServerState map after
server-after map before after (inl same) rules is = subst (IsServerState map) (sym same) is
server-after map before after (inr (inl j)) rules is = subst (IsServerState map) (sym j.is) (server-join map before j.port j.to rules is j.answer)
server-after map before after (inr (inr u)) rules is = subst (IsServerState map) (sym u.is) (server-update map before u.live (u.may is.clients) is)

-- and so through a packet
pub server_next : (map : MapView) (frame : ℕ) (r : Receiving) (place : ℕ) (a : Arrival) → IsMap map → IsServerState map r.state → IsServerState map (after_arrival map frame r place a).state
server_next map frame r place a rules is = server-after map r.state (after_arrival map frame r place a).state (state-step map frame r place a) rules is

server-through : (map : MapView) (frame : ℕ) (r : Receiving) (place : ℕ) (arrivals : List Arrival) → IsMap map → IsServerState map r.state → IsServerState map (after_arrivals map frame r place arrivals).state
server-through map frame r place [] rules is = is
server-through map frame r place (a ∷ more) rules is =
    let next = after_arrival map frame r place a in
    server-through map frame next (place + 1) more rules (server_next map frame r place a rules is)

-- the packets of a frame keep it
pub server_received : (map : MapView) (frame : ℕ) (state : State) (arrivals : List Arrival) → IsMap map → IsServerState map state → IsServerState map (received map frame state arrivals).state
unfolding received
server_received map frame state arrivals rules is = server-through map frame _ 0 arrivals rules is

-- ---- bodies stay clear

clear-join : (map : MapView) (state : State) (to : JoinPoint) → IsClear map state to → AreClear map state.records → AreClear map (slice_set state.records to.slot (Some (newcomer to.slot to.at)))
clear-join map state to new are = record {
  of_the_map = λ id r at player. elim (read-set records to.slot id (Some me)) [
    | inl here ↦ subst (λ (s : Rec). is_blocked (body_of s) (solids_of map) ≡ false) (mine r (sym here.2 ∙ at)) new.of_the_map
    | inr kept ↦ are.of_the_map id r (sym kept ∙ at) player
  ];
  of_each_other = λ i j r s at_i at_j solid_r solid_s apart. elim (read-set records to.slot i (Some me)) [
    | inl here_i ↦ elim (read-set records to.slot j (Some me)) [
      | inl here_j ↦ absurd (apart (here_i.0 ∙ sym here_j.0))
      | inr kept_j ↦
          subst (λ (x : Rec). overlaps (body_of x) (body_of s) ≡ false) (mine r (sym here_i.2 ∙ at_i)) (new.of_the_live j s (sym kept_j ∙ at_j) solid_s)
    ]
    | inr kept_i ↦ elim (read-set records to.slot j (Some me)) [
      | inl here_j ↦
          subst (λ (x : Rec). overlaps (body_of r) (body_of x) ≡ false) (mine s (sym here_j.2 ∙ at_j))
          (overlaps-flips (body_of r) (body_of me) ∙ new.of_the_live i r (sym kept_i ∙ at_i) solid_r)
      | inr kept_j ↦ are.of_each_other i j r s (sym kept_i ∙ at_i) (sym kept_j ∙ at_j) solid_r solid_s apart
    ]
  ];
}
  where
    records : List (Option Rec)
    records = state.records

    me : Rec
    me = newcomer to.slot to.at

    mine : (r : Rec) → Some me ≡ Some r → me ≡ r
    mine r e = same_Some me r e

clear-without : (map : MapView) (records : List (Option Rec)) (slot : ℕ) → AreClear map records → AreClear map (slice_set records slot None)
clear-without map records slot are = record {
  of_the_map = λ id r at player. are.of_the_map id r (kept id r at) player;
  of_each_other = λ i j r s at_i at_j solid_r solid_s apart. are.of_each_other i j r s (kept i r at_i) (kept j s at_j) solid_r solid_s apart;
}
  where
    kept : (id : ℕ) (r : Rec) → record_at (slice_set records slot None) id ≡ Some r → record_at records id ≡ Some r
    kept id r at = elim (read-set records slot id None) [
      | inl here ↦ absurd (none-some r (sym here.2 ∙ at))
      | inr same ↦ sym same ∙ at
    ]

clear-after : (map : MapView) (before after : State) → (after ≡ before) ⊎ (IsJoin map before after ⊎ IsSwap before after) → IsServerState map before → AreClear map before.records → AreClear map after.records
clear-after map before after (inl same) is are = subst (λ (s : State). AreClear map s.records) (sym same) are
clear-after map before after (inr (inl j)) is are =
    subst (λ (s : State). AreClear map s.records) (sym j.is) (clear-join map before j.to (join_clear map before j.port j.to is.clients is.fits j.answer) are)
clear-after map before after (inr (inr u)) is are = subst (λ (s : State). AreClear map s.records) (sym u.is) are

clear-through : (map : MapView) (frame : ℕ) (r : Receiving) (place : ℕ) (arrivals : List Arrival) → IsMap map → IsServerState map r.state → AreClear map r.state.records
    → AreClear map (after_arrivals map frame r place arrivals).state.records
clear-through map frame r place [] rules is are = are
clear-through map frame r place (a ∷ more) rules is are =
    let next = after_arrival map frame r place a in
    let change = state-step map frame r place a in
    clear-through map frame next (place + 1) more rules (server-after map r.state next.state change rules is) (clear-after map r.state next.state change is are)

-- the packets of a frame keep bodies clear
pub clear_received : (map : MapView) (frame : ℕ) (state : State) (arrivals : List Arrival) → IsMap map → IsServerState map state → AreClear map state.records
    → AreClear map (received map frame state arrivals).state.records
unfolding received
clear_received map frame state arrivals rules is are = clear-through map frame _ 0 arrivals rules is are

-- ---- the end of a frame

-- the state with a slot freed, and the record of its player taken out
abbrev without : State → ℕ → State
without state slot = state_of (slice_set state.clients slot None) (slice_set state.records slot None)

-- what the end of a frame changes at a slot: nothing where it isn't live, all where its client leaves, and the count of moves where it stays
end-step : (state : State) (slot : ℕ) → (finished_at state slot ≡ state) ⊎ ((finished_at state slot ≡ without state slot) ⊎ IsSwap state (finished_at state slot))
end-step state slot = by (client_at state.clients slot) refl
  where
    after : Option Client → State
    after place = state_of (slice_set state.clients slot (finished_client place)) (records_after place state.records slot)

    stays : (c : Client) → client_at state.clients slot ≡ Some c → (leaves : Bool) → c.leaves ≡ leaves
        → (after (client_at state.clients slot) ≡ state) ⊎ ((after (client_at state.clients slot) ≡ without state slot) ⊎ IsSwap state (after (client_at state.clients slot)))
    stays c e true leaves =
        inr (inl (ap after e ∙ ap (λ (b : Bool). state_of (slice_set state.clients slot (if b then None else Some (client c.port c.last c.leaves 0))) (if b then slice_set state.records slot None else state.records)) leaves))
    stays c e false leaves =
        inr (inr (record {
          live = live_slot slot (client c.port c.last c.leaves 0);
          may = λ are. record {
            in_range = omega (arith, live-inside state.clients slot c e, client_count state.clients are.slots);
            same_port = ap port_of e;
            few_moves = omega arith;
          };
          is = ap after e ∙ ap (λ (b : Bool). state_of (slice_set state.clients slot (if b then None else Some (client c.port c.last c.leaves 0))) (if b then slice_set state.records slot None else state.records)) leaves;
        }))

    by : (place : Option Client) → client_at state.clients slot ≡ place
        → (after (client_at state.clients slot) ≡ state) ⊎ ((after (client_at state.clients slot) ≡ without state slot) ⊎ IsSwap state (after (client_at state.clients slot)))
    by None e =
        inl (ap after e ∙ ap (λ (clients : List (Option Client)). state_of clients state.records) (ap (slice_set state.clients slot) (sym e) ∙ set-get_or state.clients slot None))
    by (Some c) e = stays c e c.leaves refl

clients-end : (state after : State) (slot : ℕ) → (after ≡ state) ⊎ ((after ≡ without state slot) ⊎ IsSwap state after) → AreClients state.clients → AreClients after.clients
clients-end state after slot (inl same) are = subst (λ (s : State). AreClients s.clients) (sym same) are
clients-end state after slot (inr (inl gone)) are = subst (λ (s : State). AreClients s.clients) (sym gone) (clients-free state.clients slot are)
clients-end state after slot (inr (inr u)) are = subst (λ (s : State). AreClients s.clients) (sym u.is) (clients-update state.clients u.live are (u.may are))

server-end : (map : MapView) (state after : State) (slot : ℕ) → slot < 64 → (after ≡ state) ⊎ ((after ≡ without state slot) ⊎ IsSwap state after) → IsServerState map state → IsServerState map after
server-end map state after slot below (inl same) is = subst (IsServerState map) (sym same) is
server-end map state after slot below (inr (inl gone)) is = subst (IsServerState map) (sym gone) (record {
  clients = clients-free state.clients slot is.clients;
  places = length-set state.records slot None ∙ is.places;
  fits = record {
    live = live-written state.clients state.records slot None None (omega (arith, below, client_count state.clients is.clients.slots)) (omega (arith, below, is.places)) refl is.fits.live;
    valid = valid-without map state.records slot below is.fits.valid;
  };
})
server-end map state after slot below (inr (inr u)) is = subst (IsServerState map) (sym u.is) (server-update map state u.live (u.may is.clients) is)

clear-end : (map : MapView) (state after : State) (slot : ℕ) → (after ≡ state) ⊎ ((after ≡ without state slot) ⊎ IsSwap state after) → AreClear map state.records → AreClear map after.records
clear-end map state after slot (inl same) are = subst (λ (s : State). AreClear map s.records) (sym same) are
clear-end map state after slot (inr (inl gone)) are = subst (λ (s : State). AreClear map s.records) (sym gone) (clear-without map state.records slot are)
clear-end map state after slot (inr (inr u)) are = subst (λ (s : State). AreClear map s.records) (sym u.is) are

-- what the end of a frame keeps at each slot below 64 it keeps
end-through : (P : State → Type 0) (state : State) (n : ℕ) → n ≤ 64 → ((s : State) (slot : ℕ) → slot < 64 → P s → P (finished_at s slot)) → P state → P (finished_up_to state n)
unfolding finished_up_to
end-through P state zero most step is = is
end-through P state (suc n) most step is = step (finished_up_to state n) n (omega (arith, most)) (end-through P state n (omega (arith, most)) step is)

-- ports stay apart
pub clients_finished : (state : State) → AreClients state.clients → AreClients (finished state).clients
unfolding finished
clients_finished state are = end-through (λ s. AreClients s.clients) state 64 (omega arith) (λ s slot below is. clients-end s (finished_at s slot) slot (end-step s slot) is) are

-- the state stays a server's
pub server_finished : (map : MapView) (state : State) → IsServerState map state → IsServerState map (finished state)
unfolding finished
server_finished map state is = end-through (IsServerState map) state 64 (omega arith) (λ s slot below i. server-end map s (finished_at s slot) slot below (end-step s slot) i) is

-- and bodies stay clear
pub clear_finished : (map : MapView) (state : State) → AreClear map state.records → AreClear map (finished state).records
unfolding finished
clear_finished map state are = end-through (λ s. AreClear map s.records) state 64 (omega arith) (λ s slot below i. clear-end map s (finished_at s slot) slot (end-step s slot) i) are
