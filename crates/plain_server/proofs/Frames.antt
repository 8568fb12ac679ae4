-- Frames, one after another: what holds of the state after each.
use Rattle.std.proofs.Common.{◌≡◌, ℕ, zero, suc, ◌+◌, ◌<◌, List, [], ◌∷◌, length, slice_index_or, Option, None, IsSome, replicate, refl, sym, ap, ◌∙◌, subst, arith}
use Rattle.std.specs.Prelude.{map as map_list}
use Rattle.std.proofs.lemmas.List.{length-replicate}
use Rattle.std.proofs.lemmas.List.Elements.{All-weaker}
use Rattle.entity_recs.specs.declared.limits.TheConstants.{IDS}
use Rattle.entity_recs.specs.declared.rec.Rec.{Rec}
use Rattle.entity_recs.specs.declared.effect.Entry.{Entry}
use Rattle.entity_recs.specs.Records.{IsRecord}
use Rattle.entity_recs.specs.Commands.{Command}
use Rattle.entity_recs.specs.Histories.{Item}
use Rattle.move_journal.specs.Merges.{history_of}
use Rattle.move_journal.proofs.JournalLaws.{moves_in_order_are_right, order_leaves_one_journal}
use Rattle.arena_map.specs.Maps.{MapView, IsMap, entities_of}
use Rattle.arena_map.specs.Validity.{IsOpeningWorld}
use Rattle.arena_map.proofs.Kept.{each-of}
use Rattle.arena_map.proofs.ThingRecords.{entities-are, entities-apart}
use Rattle.arena_outcomes.specs.Outcomes.{outcome_on}
use Rattle.world_tree.proofs.Links.{id-below, record_at-empty}
use Rattle.packet_read.specs.declared.arrival.Arrival.{Arrival}
use Rattle.client_ports.specs.declared.client.Client.{Client}
use Rattle.client_ports.specs.Clients.{client_at, AreClients}
use Rattle.client_ports.proofs.Slots.{client_count, no_clients-are_ports}
use Rattle.client_ports.proofs.Valid.{opening-is_server}
use Rattle.client_ports.specs.States.{State, state_of, IsServerState}
use Rattle.client_ports.specs.Receiving.{Receiving}
use Rattle.client_ports.proofs.Advances.{numbers_apart, movers_live}
use Rattle.client_ports.proofs.Staying.{clients_received, clients_finished, server_received, server_finished}
use Rattle.plain_server.specs.Laws.{OpeningIsAsTheMapSays}
use Rattle.plain_server.specs.RecordsById.{world_of, opening}
use Rattle.plain_server.specs.Moving.{HasLivePlayer, HaveMoved}
use Rattle.plain_server.specs.Entries.{IsReception}
use Rattle.plain_server.specs.Frames.{state_after_tick, received_in, moved_by, state_after, first_of, rest_of, state_played, AreRight, AreInOrder, journal_of, journals_of}
use Rattle.plain_server.proofs.Moves.{after_all, moved, after_all-are}
use Rattle.plain_server.proofs.Placing.{placed-count, placed-at}
use Rattle.plain_server.proofs.Commands.{history_has}
use Rattle.plain_server.proofs.Ticking.{server_ticked}

-- a state whose records are those after moves of live players is a server's as before
pub state_moved : (map : MapView) (state : State) (new : List (Option Rec)) (commands : List Command) → IsServerState map state → HaveMoved map state.records new commands
    → IsServerState map (state_of state.clients new)
state_moved map state new commands is has = record {
  clients = is.clients;
  places = has.count ∙ is.places;
  fits = record {
    live = record { same = λ slot below. is.fits.live.same slot below ∙ sym (has.live slot) };
    valid = has.valid;
  };
}

-- the state after the moves of a journal is a server's
pub moved_by_is : (map : MapView) (r : Receiving) (journal : List Entry) → IsMap map → IsReception map r → IsServerState map (moved_by map r journal)
moved_by_is map r journal is_map is =
    let commands = map_list (λ (item : Item). item.command) (history_of r.lists.moves journal) in
    let live = history_has (HasLivePlayer r.state.records) r.lists.moves journal is.live in
    let P : List (Option Rec) → Type 0 = λ records. IsServerState map (state_of r.state.clients records) in
    subst P (sym (after_all-are map r.state.records commands is_map is.state.fits.valid live))
    (state_moved map r.state (after_all map r.state.records commands) commands is.state (moved map r.state.records commands is_map is.state.fits.valid live))

-- a live client's slot has a live player
live_player : (map : MapView) (state : State) (c : Command) → IsServerState map state → IsSome (client_at state.clients c.slot) → HasLivePlayer state.records c
live_player map state c is live = record { slot = below; live = sym (is.fits.live.same c.slot below) ∙ live }
  where
    within : (clients : List (Option Client)) (slot : ℕ) → IsSome (client_at clients slot) → slot < length clients
    within [] slot some = cc
    within (x ∷ clients) zero some = omega arith
    within (x ∷ clients) (suc slot) some = let rest = within clients slot some in omega (arith, rest)

    below : c.slot < 64
    below = omega (arith, within state.clients c.slot live, client_count state.clients is.clients.slots)

-- what is received in a frame from a server's state
pub received_is : (map : MapView) (frame : ℕ) (state : State) (arrivals : List Arrival) → IsMap map → IsServerState map state
    → IsReception map (received_in map frame state arrivals)
received_is map frame state arrivals is_map is =
    let next = received_in map frame state arrivals in
    let there = server_received map frame (state_after_tick map frame state) arrivals is_map (server_ticked map frame state is_map is) in
    record {
      state = there;
      live = All-weaker (λ (c : Command). IsSome (client_at next.state.clients c.slot)) (HasLivePlayer next.state.records) (λ c some. live_player map next.state c there some) next.lists.moves
          (movers_live map frame (state_after_tick map frame state) arrivals);
      apart = numbers_apart map frame (state_after_tick map frame state) arrivals;
    }

-- the state for the next frame is a server's
pub state_after_is : (map : MapView) (r : Receiving) (journal : List Entry) → IsMap map → IsReception map r → IsServerState map (state_after map r journal)
state_after_is map r journal is_map is = server_finished map (moved_by map r journal) (moved_by_is map r journal is_map is)

-- so is the state after any frames
pub played_is : (map : MapView) (frame : ℕ) (state : State) (frames : List (List Arrival)) (journals : List (List Entry)) → IsMap map
    → IsServerState map state → IsServerState map (state_played map frame state frames journals)
played_is map frame state [] journals is_map is = is
played_is map frame state (arrivals ∷ frames) journals is_map is =
    let r = received_in map frame state arrivals in
    let pass = received_is map frame state arrivals is_map is in
    played_is map (frame + 1) (state_after map r (first_of journals)) frames (rest_of journals) is_map
    (state_after_is map r (first_of journals) is_map pass)

-- ---- moves in the order of arrival

-- the journals in the order of arrival are right
pub right_in_order : (map : MapView) (frame : ℕ) (state : State) (frames : List (List Arrival))
    → AreRight map frame state frames (journals_of map frame state frames)
right_in_order map frame state [] = tt
right_in_order map frame state (arrivals ∷ frames) =
    let r = received_in map frame state arrivals in (
      (moves_in_order_are_right (outcome_on map) (world_of r.state.records) r.lists.moves (numbers_apart map frame (state_after_tick map frame state) arrivals)).right,
      right_in_order map (frame + 1) (state_after map r (journal_of map r)) frames,
    )

-- and in that order
pub order_in_order : (map : MapView) (frame : ℕ) (state : State) (frames : List (List Arrival))
    → AreInOrder map frame state frames (journals_of map frame state frames)
order_in_order map frame state [] = tt
order_in_order map frame state (arrivals ∷ frames) =
    let r = received_in map frame state arrivals in (
      (moves_in_order_are_right (outcome_on map) (world_of r.state.records) r.lists.moves (numbers_apart map frame (state_after_tick map frame state) arrivals)).order,
      order_in_order map (frame + 1) (state_after map r (journal_of map r)) frames,
    )

-- right journals in the order of arrival are these
pub one_journal_each : (map : MapView) (frame : ℕ) (state : State) (frames : List (List Arrival)) (journals : List (List Entry))
    → AreRight map frame state frames journals → AreInOrder map frame state frames journals → journals ≡ journals_of map frame state frames
one_journal_each map frame state [] [] right order = refl
one_journal_each map frame state [] (j ∷ js) right order = absurd right
one_journal_each map frame state (arrivals ∷ frames) [] right order = absurd right
one_journal_each map frame state (arrivals ∷ frames) (j ∷ js) right order =
    let r = received_in map frame state arrivals in
    let first : j ≡ journal_of map r =
    order_leaves_one_journal (outcome_on map) (world_of r.state.records) r.lists.moves j (numbers_apart map frame (state_after_tick map frame state) arrivals) (record { right = right.0; order = order.0 }) in
    let rest = one_journal_each map (frame + 1) (state_after map r j) frames js right.1 order.1 in
    λ i. first i ∷ (rest ∙ ap (λ (k : List Entry). journals_of map (frame + 1) (state_after map r k) frames) first) i

-- there is a place for each id at the start
opening_places : (map : MapView) → length (opening map).records ≡ IDS
unfolding opening
opening_places map = placed-count (entities_of map) (replicate IDS None) ∙ length-replicate {A = Option Rec} IDS None

-- and the things of the map are live there, each at its id
pub opening_world : (map : MapView) → IsMap map → IsOpeningWorld map (opening map).records
unfolding opening
opening_world map is id =
    let few = length-replicate {A = Option Rec} IDS None in
    placed-at (entities_of map) (replicate IDS None) id (entities-apart map is)
    (each-of IsRecord (λ r. r.id < length (replicate {A = Option Rec} IDS None)) (entities_of map) (λ r here. omega (arith, id-below r here, few)) (entities-are map is))
    (record_at-empty IDS id)

-- the opening state is a server's
pub opening_is : (map : MapView) → IsMap map → IsServerState map (opening map)
unfolding opening
opening_is map is = opening-is_server map (opening map).records is (opening_places map) (opening_world map is)

-- nobody is joined there
nobody_in : (count slot : ℕ) → slice_index_or (replicate {A = Option Client} count None) slot None ≡ None
nobody_in zero slot = refl
nobody_in (suc count) zero = refl
nobody_in (suc count) (suc slot) = nobody_in count slot

pub opening_nobody : (map : MapView) (slot : ℕ) → client_at (opening map).clients slot ≡ None
unfolding opening
opening_nobody map slot = nobody_in 64 slot

pub opening_is_as_the_map_says : OpeningIsAsTheMapSays
opening_is_as_the_map_says = record { nobody = opening_nobody; things = opening_world }

-- no two live slots share a port, after any frames
pub ports_apart_through : (map : MapView) (frame : ℕ) (state : State) (frames : List (List Arrival)) (journals : List (List Entry)) → AreClients state.clients
    → AreClients (state_played map frame state frames journals).clients
ports_apart_through map frame state [] journals are = are
ports_apart_through map frame state (arrivals ∷ frames) journals are =
    let r = received_in map frame state arrivals in
    ports_apart_through map (frame + 1) (state_after map r (first_of journals)) frames (rest_of journals)
    (clients_finished (moved_by map r (first_of journals)) (clients_received map frame (state_after_tick map frame state) arrivals are))

-- nobody is joined at first
pub opening_apart : (map : MapView) → AreClients (opening map).clients
unfolding opening
opening_apart map = no_clients-are_ports.clients_are
