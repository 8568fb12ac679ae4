-- What a join adds.
use Rattle.std.proofs.Common.{◌≡◌, ℕ, Some, None, Result, Ok, refl, sym, ap, ◌∙◌, subst, arith, get_or-set_same, get_or-set_other}
use Rattle.arena_geo.specs.declared.vec3.Vec3.{Vec3}
use Rattle.packet_read.specs.declared.packet.Packet.{Packet}
use Rattle.packet_read.specs.declared.packet_fault.PacketFault.{PacketFault}
use Rattle.arena_map.specs.Maps.{MapView}
use Rattle.client_ports.specs.declared.refusal.Refusal.{Refusal}
use Rattle.client_ports.specs.declared.spawns.JoinPoint.{JoinPoint}
use Rattle.client_ports.specs.Clients.{new_client}
use Rattle.client_ports.specs.States.{State, IsServerState, newcomer, with_newcomer}
use Rattle.client_ports.specs.FirstRefusals.{join_answer}
use Rattle.client_ports.specs.Receiving.{Receiving, after_join, after_packet, after_arrival}
use Rattle.client_ports.specs.Newcomers.{IsNewPlayer, IsNewClient, HasNewcomer, JoinsAddNewcomers}
use Rattle.client_ports.proofs.Facts.{slot_least}
use Rattle.client_ports.proofs.Slots.{client_count}
use Rattle.client_ports.proofs.Changes.{join-newcomer}
use Rattle.client_ports.proofs.Live.{free-record}

new-player : (slot : ℕ) (at : Vec3) → IsNewPlayer slot at (newcomer slot at)
new-player slot at = record {
  id_is = refl;
  kind_is = refl;
  origin = refl;
  mins = refl;
  maxs = refl;
  vel = refl;
  flags = refl;
  ammo = refl;
  carry = refl;
  score = refl;
  seq = refl;
  state = refl;
}

new-client : (port : ℕ) → IsNewClient port (new_client port)
new-client port = record { port_is = refl; last = refl; leaves = refl; moves = refl }

added : (map : MapView) (state : State) (port : ℕ) (to : JoinPoint) → IsServerState map state → join_answer map state port ≡ Ok to
    → HasNewcomer state (with_newcomer state port to.slot to.at) port to
added map state port to is answer =
    let below = (slot_least map state port to is.clients answer).in_range in
    let free = (join-newcomer map state port to answer).free in
    let clients = client_count state.clients is.clients.slots in
    let places = is.places in
    record {
      in_range = below;
      client_free = free;
      record_free = free-record state.clients state.records to.slot below is.fits.live free;
      client = new_client port;
      joined = get_or-set_same state.clients to.slot (Some (new_client port)) None (omega (arith, below, clients));
      client_is = new-client port;
      player = newcomer to.slot to.at;
      live = get_or-set_same state.records to.slot (Some (newcomer to.slot to.at)) None (omega (arith, below, places));
      player_is = new-player to.slot to.at;
      other_clients = λ slot apart. get_or-set_other state.clients to.slot slot (Some (new_client port)) None apart;
      other_records = λ id apart. get_or-set_other state.records to.slot id (Some (newcomer to.slot to.at)) None apart;
    }

pub joins_add_newcomers : JoinsAddNewcomers
joins_add_newcomers map frame r place a to is read answer =
    let after : Result Packet PacketFault → Receiving = λ packet. after_packet map frame packet r place a.port in
    let next : (after_arrival map frame r place a).state ≡ with_newcomer r.state a.port to.slot to.at =
    ap (λ packet. (after packet).state) read ∙ ap (λ (where_to : Result JoinPoint Refusal). (after_join where_to r place a.port).state) answer in
    subst (λ (s : State). HasNewcomer r.state s a.port to) (sym next) (added map r.state a.port to is answer)
