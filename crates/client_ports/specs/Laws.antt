-- What holds of the receive pass and of the end of a frame, in the words of the subject.
use Rattle.std.specs.Prelude.{◌≡◌, ◌⊎◌, ◌↔◌, ℕ, ◌+◌, ◌<◌, ◌≤◌, true, false, List, [], ◌∷◌, All, Contains, length, take, slice_get}
use Rattle.std.specs.Prelude.{Option, Some, None, Ok, if◌then◌else◌}
use Rattle.arena_geo.specs.Boxes.{overlaps, is_blocked}
use Rattle.entity_recs.specs.declared.limits.TheConstants.{IDS}
use Rattle.entity_recs.specs.declared.rec.Rec.{Rec}
use Rattle.entity_recs.specs.Bodies.{body_of, player_body}
use Rattle.entity_recs.specs.Kinds.{is_solid}
use Rattle.entity_recs.specs.Commands.{Command}
use Rattle.packet_read.specs.declared.move_packet.MovePacket.{MovePacket}
use Rattle.packet_read.specs.declared.packet.Packet.{Packet}
use Rattle.packet_read.specs.declared.packet.Packet.TheVariants.{Join, Leave}
use Rattle.packet_read.specs.Reading.{reading}
use Rattle.entity_slots.specs.FreeSlots.{IsLeastFree}
use Rattle.arena_map.specs.Maps.{MapView, solids_of}
use Rattle.world_tree.specs.Live.{record_at}
use Rattle.packet_read.specs.declared.arrival.Arrival.{Arrival}
use Rattle.client_ports.specs.declared.client.Client.{Client}
use Rattle.client_ports.specs.declared.client.LiveSlot.{LiveSlot}
use Rattle.client_ports.specs.declared.refusal.Refusal.{Refusal}
use Rattle.client_ports.specs.declared.spawns.JoinPoint.{JoinPoint}
use Rattle.client_ports.specs.Clients.{client, client_at, ports_of, AreClients}
use Rattle.client_ports.specs.States.{State, IsState, with_newcomer, with_update}
use Rattle.client_ports.specs.Lists.{with_join, with_moves, with_refusal}
use Rattle.packet_read.specs.Commands.{commands_of}
use Rattle.client_ports.specs.NewMoves.{new_among, numbers_in, last_in, RiseFrom}
use Rattle.client_ports.specs.FirstRefusals.{join_answer, leave_answer, with_new_moves, move_answer}
use Rattle.client_ports.specs.Receiving.{Receiving, after_refusal, after_arrival}
use Rattle.client_ports.specs.Refusals.{HasNoRoom, RefusalHolds}
use Rattle.client_ports.specs.Finishing.{is_leaver, finished_client, finished}

-- no two live slots share a port
abbrev pub PortsAreApart : Type 0
PortsAreApart = (clients : List (Option Client)) → AreClients clients → (i j : ℕ) (c d : Client)
    → client_at clients i ≡ Some c → client_at clients j ≡ Some d → c.port ≡ d.port → i ≡ j

-- the slot that a join gets is the least free one
abbrev pub SlotIsLeastFree : Type 0
SlotIsLeastFree = (map : MapView) (state : State) (port : ℕ) (to : JoinPoint) → AreClients state.clients
    → join_answer map state port ≡ Ok to → IsLeastFree (ports_of state.clients) to.slot

-- the body of a player that joins overlaps no wall and no block, and no body of a live solid
pub record IsClear (map : MapView) (state : State) (to : JoinPoint) : Type 0 where
  pub of_the_map : is_blocked (player_body to.at) (solids_of map) ≡ false
  pub of_the_live : (id : ℕ) (r : Rec) → record_at state.records id ≡ Some r → is_solid r.kind ≡ true
      → overlaps (player_body to.at) (body_of r) ≡ false

-- nobody is added into a solid
abbrev pub NobodyIsAddedIntoASolid : Type 0
NobodyIsAddedIntoASolid =
    (map : MapView) (state : State) (port : ℕ) (to : JoinPoint) → AreClients state.clients → IsState map state
    → join_answer map state port ≡ Ok to → IsClear map state to

-- a join is put at the first spawn with room
pub record IsAtFirstRoom (map : MapView) (state : State) (to : JoinPoint) : Type 0 where
  pub number : ℕ
  pub is_spawn : slice_get map.spawns number ≡ Some to.at
  pub room : IsClear map state to
  pub no_room_before : All (HasNoRoom map state.records) (take number map.spawns)

-- a player that joins is put at a spawn with room, and no spawn before it in line order has room
abbrev pub JoinsAreAtTheFirstRoom : Type 0
JoinsAreAtTheFirstRoom =
    (map : MapView) (state : State) (port : ℕ) (to : JoinPoint) → AreClients state.clients → IsState map state
    → join_answer map state port ≡ Ok to → IsAtFirstRoom map state to

-- commands of a move packet are accepted: exactly those whose number is above the last accepted one of the client. Their
-- numbers rise, and the last of them becomes the last accepted one; and with the moves of the client that were accepted in
-- the frame before they are at most 8
pub record AreAccepted (clients : List (Option Client)) (steps new : List MovePacket) (live : LiveSlot) : Type 0 where
  pub was : Client
  pub in_slot : client_at clients live.slot ≡ Some was
  pub stays : was.leaves ≡ false
  pub are_new : new ≡ new_among was.last steps
  pub each : (m : MovePacket) → Contains new m ↔ (Contains steps m × was.last < m.seq)
  pub some : 1 ≤ length new
  pub rise : RiseFrom was.last (numbers_in new)
  pub few : was.moves + length new ≤ 8
  pub is : live.client ≡ client was.port (last_in was.last (numbers_in new)) false (was.moves + length new)

-- numbers that are accepted since a join rise strictly, and a player has at most 8 moves in a frame
abbrev pub AcceptedNumbersRise : Type 0
AcceptedNumbersRise = (clients : List (Option Client)) (port : ℕ) (packet : Packet) (live : LiveSlot)
    → move_answer clients port (commands_of packet) ≡ Ok live
    → let new = new_among live.client.last (commands_of packet) in
    AreAccepted clients (commands_of packet) new (with_new_moves live new)

-- a leave is accepted: the client didn't leave before, and nothing else of it changes
pub record IsAcceptedLeave (clients : List (Option Client)) (live : LiveSlot) : Type 0 where
  pub was : Client
  pub in_slot : client_at clients live.slot ≡ Some was
  pub stays : was.leaves ≡ false
  pub is : live.client ≡ client was.port was.last true was.moves

-- a packet is refused: the clients and the records are as they were
pub record IsRefused (r next : Receiving) (place : ℕ) : Type 0 where
  pub why : Refusal
  pub state : next.state ≡ r.state
  pub lists : next.lists ≡ with_refusal r.lists place why

-- a packet is a join, and joins its port
pub record IsJoined (map : MapView) (r next : Receiving) (a : Arrival) : Type 0 where
  pub to : JoinPoint
  pub read : reading a.bytes ≡ Ok Join
  pub answer : join_answer map r.state a.port ≡ Ok to
  pub state : next.state ≡ with_newcomer r.state a.port to.slot to.at
  pub lists : next.lists ≡ with_join r.lists a.port to.slot

-- a packet is a leave, and makes the client of its port leave at the end of the frame
pub record IsLeave (r next : Receiving) (a : Arrival) : Type 0 where
  pub live : LiveSlot
  pub read : reading a.bytes ≡ Ok Leave
  pub answer : leave_answer r.state.clients a.port ≡ Ok live
  pub own_port : live.client.port ≡ a.port
  pub accepted : IsAcceptedLeave r.state.clients live
  pub state : next.state ≡ with_update r.state live
  pub lists : next.lists ≡ r.lists

-- a command is that of a move: it has this frame and slot, and all else from the move
pub record IsCommandOf (frame slot : ℕ) (packet : MovePacket) (command : Command) : Type 0 where
  pub in_frame : command.frame ≡ frame
  pub in_slot : command.slot ≡ slot
  pub seq : command.seq ≡ packet.seq
  pub ms : command.ms ≡ packet.ms
  pub wish_x : command.wish_x ≡ packet.wish_x
  pub wish_y : command.wish_y ≡ packet.wish_y
  pub buttons : command.buttons ≡ packet.buttons

-- commands are those of moves, one each and in their order
abbrev pub AreCommandsOf : ℕ → ℕ → List MovePacket → List Command → Type 0
AreCommandsOf frame slot [] [] = Unit {0}
AreCommandsOf frame slot (m ∷ steps) (c ∷ commands) =
    IsCommandOf frame slot m c × AreCommandsOf frame slot steps commands
AreCommandsOf frame slot _ _ = ⊥

-- a packet is a move packet of the client of its port, and its new commands are accepted: one at least
pub record IsMove (frame : ℕ) (r next : Receiving) (a : Arrival) : Type 0 where
  pub live : LiveSlot
  pub packet : Packet
  pub new : List MovePacket
  pub commands : List Command
  pub read : reading a.bytes ≡ Ok packet
  pub of_packet : AreCommandsOf frame live.slot new commands
  pub own_port : live.client.port ≡ a.port
  pub accepted : AreAccepted r.state.clients (commands_of packet) new live
  pub state : next.state ≡ with_update r.state live
  pub lists : next.lists ≡ with_moves r.lists commands

-- each packet has one answer: a refusal, which changes nothing else, a join, a leave or a move
abbrev pub EachPacketHasOneAnswer : Type 0
EachPacketHasOneAnswer = (map : MapView) (frame : ℕ) (r : Receiving) (place : ℕ) (a : Arrival)
    → let next = after_arrival map frame r place a in
    (IsRefused r next place ⊎ IsJoined map r next a) ⊎ (IsLeave r next a ⊎ IsMove frame r next a)

-- a packet is refused, for this refusal, exactly where it holds and none before it
abbrev pub RefusalsAreKnown : Type 0
RefusalsAreKnown = (map : MapView) (frame : ℕ) (r : Receiving) (place : ℕ) (a : Arrival) (why : Refusal)
    → AreClients r.state.clients → IsState map r.state
    → (after_arrival map frame r place a ≡ after_refusal r place why)
    ↔ RefusalHolds map r.state (reading a.bytes) a.port why

-- the end of a frame takes out the clients that leave, with their players, and no other
abbrev pub FinishTakesLeaversOut : Type 0
FinishTakesLeaversOut = (state : State) → length state.clients ≡ 64 → length state.records ≡ IDS → (id : ℕ)
    → (client_at (finished state).clients id ≡ finished_client (client_at state.clients id))
    × (record_at (finished state).records id ≡ (if is_leaver (client_at state.clients id)
    then None else record_at state.records id))

-- the client of a slot after the end of a frame, in which it stays: it has its port and its last number, doesn't leave,
-- and begins the next frame with no move
pub record IsStillThere (before : Client) (after : Option Client) : Type 0 where
  pub now : Client
  pub in_slot : after ≡ Some now
  pub port : now.port ≡ before.port
  pub last : now.last ≡ before.last
  pub leaves : now.leaves ≡ false
  pub moves : now.moves ≡ 0

-- the end of a frame keeps each client that doesn't leave, with its port and its last number
abbrev pub FinishKeepsWhoStays : Type 0
FinishKeepsWhoStays =
    (state : State) (slot : ℕ) (before : Client) → length state.clients ≡ 64 → length state.records ≡ IDS
    → client_at state.clients slot ≡ Some before → before.leaves ≡ false
    → IsStillThere before (client_at (finished state).clients slot)
