-- What the tests of moves know of their world.
use Rattle.std.proofs.Common.{◌≡◌, ℕ, ◌*◌, ◌<◌, ◌≤◌, List, length, Option, IsSome, sym, ◌∙◌, subst, arith}
use Rattle.std.specs.Prelude.{All}
use Rattle.std.proofs.lemmas.List.Elements.{All-weaker}
use Rattle.entity_recs.specs.declared.limits.TheConstants.{IDS}
use Rattle.entity_recs.specs.declared.rec.Rec.{Rec}
use Rattle.entity_recs.specs.Commands.{Command}
use Rattle.move_journal.specs.Merges.{HasNumbersApart}
use Rattle.arena_map.specs.Maps.{MapView, IsMap}
use Rattle.arena_map.specs.Validity.{IsOpeningWorld}
use Rattle.packet_read.specs.declared.arrival.Arrival.{Arrival}
use Rattle.client_ports.specs.declared.client.Client.{Client}
use Rattle.client_ports.specs.Clients.{client_at, no_clients}
use Rattle.client_ports.specs.States.{State, state_of, IsServerState}
use Rattle.client_ports.specs.Receiving.{Receiving, received}
use Rattle.client_ports.proofs.Advances.{numbers_apart, movers_live}
use Rattle.client_ports.proofs.Slots.{client_count}
use Rattle.client_ports.proofs.Staying.{server_received}
use Rattle.client_ports.proofs.Valid.{opening-is_server}
use Rattle.plain_server.specs.Moving.{HasLivePlayer}
use Rattle.client_ports.proofs.Short.{moves_are_few, within}

-- a live client's slot has a live player
live_player : (map_view : MapView) (state : State) (c : Command) → IsServerState map_view state → IsSome (client_at state.clients c.slot) → HasLivePlayer state.records c
live_player map_view state c is live =
    let inside = within state.clients c.slot live in
    let below : c.slot < 64 = omega (arith, inside, client_count state.clients is.clients.slots) in
    record { slot = below; live = sym (is.fits.live.same c.slot below) ∙ live }

-- what is received from this world on
pub record IsGot (records : List (Option Rec)) (moves : List Command) : Type 0 where
  pub live : All (HasLivePlayer records) moves
  pub apart : HasNumbersApart moves
  pub few : length moves ≤ 8 * 64

-- the world of the opening is a server's, where nobody is joined
pub opening_state : (map_view : MapView) (clients : List (Option Client)) (records : List (Option Rec)) → IsMap map_view → length records ≡ IDS
    → IsOpeningWorld map_view records → clients ≡ no_clients → IsServerState map_view (state_of clients records)
opening_state map_view clients records is_map places opening nobody =
    subst (λ (cs : List (Option Client)). IsServerState map_view (state_of cs records)) (sym nobody)
    (opening-is_server map_view records is_map places opening)

-- the moves that are received are those of live players, with their numbers apart, and few
pub got : (map_view : MapView) (frame : ℕ) (state : State) (arrivals : List Arrival) (r : Receiving) → IsMap map_view → IsServerState map_view state
    → r ≡ received map_view frame state arrivals → IsGot r.state.records r.lists.moves
got map_view frame state arrivals r is_map is same =
    let next = received map_view frame state arrivals in
    let there = server_received map_view frame state arrivals is_map is in
    subst (λ (q : Receiving). IsGot q.state.records q.lists.moves) (sym same) (record {
      live =
          All-weaker (λ (c : Command). IsSome (client_at next.state.clients c.slot)) (HasLivePlayer next.state.records)
          (λ c some. live_player map_view next.state c there some) next.lists.moves (movers_live map_view frame state arrivals);
      apart = numbers_apart map_view frame state arrivals;
      few = moves_are_few map_view frame state arrivals is.clients;
    })
