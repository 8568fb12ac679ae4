-- Why a packet is refused: when each refusal holds, in the words of the subject.
use Rattle.std.specs.Prelude.{◌≡◌, ◌⊎◌, ℕ, ◌+◌, ◌<◌, ◌≤◌, Bool, true, false, List, length, All, Option, Some, Result, Ok}
use Rattle.std.specs.Prelude.{Err}
use Rattle.arena_geo.specs.declared.vec3.Vec3.{Vec3}
use Rattle.arena_geo.specs.Boxes.{overlaps, is_blocked}
use Rattle.entity_recs.specs.declared.rec.Rec.{Rec}
use Rattle.entity_recs.specs.Bodies.{body_of, player_body}
use Rattle.entity_recs.specs.Kinds.{is_solid}
use Rattle.packet_read.specs.declared.packet.Packet.{Packet}
use Rattle.packet_read.specs.declared.packet.Packet.TheVariants.{Join, Move, Leave, Moves}
use Rattle.packet_read.specs.declared.packet_fault.PacketFault.{PacketFault}
use Rattle.entity_slots.specs.Ports.{is_joined, is_full}
use Rattle.arena_map.specs.Maps.{MapView, solids_of}
use Rattle.world_tree.specs.Live.{record_at}
use Rattle.client_ports.specs.declared.client.Client.{Client}
use Rattle.client_ports.specs.declared.refusal.Refusal.{Refusal}
use Rattle.client_ports.specs.declared.refusal.Refusal.TheVariants as refusal
use Rattle.packet_read.specs.Commands.{commands_of}
use Rattle.client_ports.specs.NewMoves.{new_among}
use Rattle.client_ports.specs.Clients.{client_at, ports_of}
use Rattle.client_ports.specs.States.{State}

-- ---- joins

-- a join of a port that is joined
pub record IsJoinOfAClient (clients : List (Option Client)) (read : Result Packet PacketFault) (port : ℕ)
    : Type 0 where
  pub is_join : read ≡ Ok Join
  pub joined : is_joined (ports_of clients) port ≡ true

-- a join of another port, while all slots are live
pub record FindsNoSlot (clients : List (Option Client)) (read : Result Packet PacketFault) (port : ℕ) : Type 0 where
  pub is_join : read ≡ Ok Join
  pub not_joined : is_joined (ports_of clients) port ≡ false
  pub full : is_full (ports_of clients) ≡ true

-- the body of a player at this place overlaps that of a live solid
pub record OverlapsALiveSolid (records : List (Option Rec)) (at : Vec3) : Type 0 where
  pub id : ℕ
  pub solid : Rec
  pub live : record_at records id ≡ Some solid
  pub kind : is_solid solid.kind ≡ true
  pub overlap : overlaps (player_body at) (body_of solid) ≡ true

-- a player has no room at this place: its body overlaps a wall or a block, or the body of a live solid
abbrev pub HasNoRoom : MapView → List (Option Rec) → Vec3 → Type 0
HasNoRoom map records at = (is_blocked (player_body at) (solids_of map) ≡ true) ⊎ OverlapsALiveSolid records at

-- a join of another port, while a slot is free, and there is no room at any spawn
pub record FindsNoRoom (map : MapView) (state : State) (read : Result Packet PacketFault) (port : ℕ) : Type 0 where
  pub is_join : read ≡ Ok Join
  pub not_joined : is_joined (ports_of state.clients) port ≡ false
  pub not_full : is_full (ports_of state.clients) ≡ false
  pub no_room : All (HasNoRoom map state.records) map.spawns

-- ---- leaves and moves

-- the packet is a move packet
abbrev pub is_move : Packet → Bool
is_move (Move packet) = true
is_move (Moves packet) = true
is_move _ = false

-- the packet is a leave or a move packet
abbrev pub is_leave_or_move : Result Packet PacketFault → Bool
is_leave_or_move (Ok Leave) = true
is_leave_or_move (Ok packet) = is_move packet
is_leave_or_move (Err why) = false

-- this client is joined in this slot with this port
pub record IsClientOf (clients : List (Option Client)) (port slot : ℕ) (sender : Client) : Type 0 where
  pub in_slot : client_at clients slot ≡ Some sender
  pub own_port : sender.port ≡ port

-- a leave or a move of a port that isn't joined
pub record IsOfNoClient (clients : List (Option Client)) (read : Result Packet PacketFault) (port : ℕ) : Type 0 where
  pub kind : is_leave_or_move read ≡ true
  pub not_joined : is_joined (ports_of clients) port ≡ false

-- a leave or a move of a client that leaves at the end of the frame
pub record IsOfALeaver (clients : List (Option Client)) (read : Result Packet PacketFault) (port : ℕ) : Type 0 where
  pub slot : ℕ
  pub sender : Client
  pub kind : is_leave_or_move read ≡ true
  pub is_client : IsClientOf clients port slot sender
  pub leaves : sender.leaves ≡ true

-- a move packet of a client that stays
pub record IsMoveOf (clients : List (Option Client)) (read : Result Packet PacketFault) (port : ℕ) (packet : Packet)
    (sender : Client) : Type 0 where
  pub slot : ℕ
  pub is_read : read ≡ Ok packet
  pub kind : is_move packet ≡ true
  pub is_client : IsClientOf clients port slot sender
  pub stays : sender.leaves ≡ false

-- a move packet without a command whose number is above the last accepted one of its client
pub record IsOldMove (clients : List (Option Client)) (read : Result Packet PacketFault) (port : ℕ) : Type 0 where
  pub packet : Packet
  pub sender : Client
  pub move : IsMoveOf clients read port packet sender
  pub not_above : All (λ m. m.seq ≤ sender.last) (commands_of packet)

-- a move packet with commands whose number is above it, which are more than 8 together with the moves of its client that
-- were accepted in the frame
pub record IsMoveTooMany (clients : List (Option Client)) (read : Result Packet PacketFault) (port : ℕ)
    : Type 0 where
  pub packet : Packet
  pub sender : Client
  pub move : IsMoveOf clients read port packet sender
  pub above : 1 ≤ length (new_among sender.last (commands_of packet))
  pub many : 8 < sender.moves + length (new_among sender.last (commands_of packet))

-- ---- refusals

-- this refusal holds, and none before it
abbrev pub RefusalHolds : MapView → State → Result Packet PacketFault → ℕ → Refusal → Type 0
RefusalHolds map state read port (refusal.Packet fault) = read ≡ Err fault
RefusalHolds map state read port refusal.Already = IsJoinOfAClient state.clients read port
RefusalHolds map state read port refusal.Full = FindsNoSlot state.clients read port
RefusalHolds map state read port refusal.Crowded = FindsNoRoom map state read port
RefusalHolds map state read port refusal.NotJoined = IsOfNoClient state.clients read port
RefusalHolds map state read port refusal.Leaving = IsOfALeaver state.clients read port
RefusalHolds map state read port refusal.Old = IsOldMove state.clients read port
RefusalHolds map state read port refusal.Many = IsMoveTooMany state.clients read port
