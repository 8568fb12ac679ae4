-- What a join adds, in numbers: the record of the new player, and its client.
use Rattle.std.specs.Prelude.{◌≡◌, ◌≢◌, ℕ, ◌<◌, false, Some, None, Ok, pos, neg_ℤ}
use Rattle.arena_geo.specs.declared.vec3.Vec3.{Vec3}
use Rattle.arena_geo.specs.Vectors.{vector}
use Rattle.entity_recs.specs.declared.kind.Kind.TheVariants.{Player}
use Rattle.entity_recs.specs.declared.rec.Rec.{Rec}
use Rattle.packet_read.specs.declared.packet.Packet.TheVariants.{Join}
use Rattle.packet_read.specs.Reading.{reading}
use Rattle.arena_map.specs.Maps.{MapView}
use Rattle.world_tree.specs.Live.{record_at}
use Rattle.packet_read.specs.declared.arrival.Arrival.{Arrival}
use Rattle.client_ports.specs.declared.client.Client.{Client}
use Rattle.client_ports.specs.declared.spawns.JoinPoint.{JoinPoint}
use Rattle.client_ports.specs.Clients.{client_at}
use Rattle.client_ports.specs.States.{State, IsServerState}
use Rattle.client_ports.specs.FirstRefusals.{join_answer}
use Rattle.client_ports.specs.Receiving.{Receiving, after_arrival}

-- the record of a player that has just joined in this slot, with its origin here: it is 8,192 wide and 14,336 high, at
-- rest, without ammunition, gems and score, and has done no command
pub record IsNewPlayer (slot : ℕ) (at : Vec3) (r : Rec) : Type 0 where
  pub id_is : r.id ≡ slot
  pub kind_is : r.kind ≡ Player
  pub origin : r.origin ≡ at
  pub mins : r.mins ≡ vector (neg_ℤ (pos 4096)) (neg_ℤ (pos 4096)) (neg_ℤ (pos 6144))
  pub maxs : r.maxs ≡ vector (pos 4096) (pos 4096) (pos 8192)
  pub vel : r.vel ≡ vector (pos 0) (pos 0) (pos 0)
  pub flags : r.flags ≡ 0
  pub ammo : r.ammo ≡ 0
  pub carry : r.carry ≡ 0
  pub score : r.score ≡ 0
  pub seq : r.seq ≡ 0
  pub state : r.state ≡ 0

-- the client that has just joined from this port: no number was accepted of it, it doesn't leave, and has no move
pub record IsNewClient (port : ℕ) (c : Client) : Type 0 where
  pub port_is : c.port ≡ port
  pub last : c.last ≡ 0
  pub leaves : c.leaves ≡ false
  pub moves : c.moves ≡ 0

-- a slot that was free has such a client and such a record, and nothing else changed
pub record HasNewcomer (before after : State) (port : ℕ) (to : JoinPoint) : Type 0 where
  pub in_range : to.slot < 64
  pub client_free : client_at before.clients to.slot ≡ None
  pub record_free : record_at before.records to.slot ≡ None
  pub client : Client
  pub joined : client_at after.clients to.slot ≡ Some client
  pub client_is : IsNewClient port client
  pub player : Rec
  pub live : record_at after.records to.slot ≡ Some player
  pub player_is : IsNewPlayer to.slot to.at player
  pub other_clients : (slot : ℕ) → slot ≢ to.slot → client_at after.clients slot ≡ client_at before.clients slot
  pub other_records : (id : ℕ) → id ≢ to.slot → record_at after.records id ≡ record_at before.records id

-- a join that gets a place adds a newcomer there
abbrev pub JoinsAddNewcomers : Type 0
JoinsAddNewcomers = (map : MapView) (frame : ℕ) (r : Receiving) (place : ℕ) (a : Arrival) (to : JoinPoint)
    → IsServerState map r.state → reading a.bytes ≡ Ok Join → join_answer map r.state a.port ≡ Ok to
    → HasNewcomer r.state (after_arrival map frame r place a).state a.port to
