-- The commands of the moves that are accepted in a frame have its number.
use Rattle.std.proofs.Common.{◌≡◌, ℕ, ◌+◌, List, [], ◌∷◌, map as map_list, All, Result, Ok, Err, refl}
use Rattle.std.proofs.lemmas.List.Elements.{All-append, All-cons, All-nil}
use Rattle.entity_recs.specs.Commands.{Command}
use Rattle.packet_read.specs.declared.move_packet.MovePacket.{MovePacket}
use Rattle.packet_read.specs.declared.packet.Packet.{Packet}
use Rattle.packet_read.specs.declared.packet.Packet.TheVariants.{Join, Move, Leave, Moves}
use Rattle.packet_read.specs.declared.packet_fault.PacketFault.{PacketFault}
use Rattle.packet_read.specs.Commands.{commands_of}
use Rattle.packet_read.specs.Reading.{reading}
use Rattle.arena_map.specs.Maps.{MapView}
use Rattle.packet_read.specs.declared.arrival.Arrival.{Arrival}
use Rattle.client_ports.specs.declared.client.LiveSlot.{LiveSlot}
use Rattle.client_ports.specs.declared.refusal.Refusal.{Refusal}
use Rattle.client_ports.specs.declared.spawns.JoinPoint.{JoinPoint}
use Rattle.client_ports.specs.NewMoves.{new_among}
use Rattle.client_ports.specs.FirstRefusals.{join_answer, leave_answer, move_answer}
use Rattle.client_ports.specs.States.{State}
use Rattle.client_ports.specs.Receiving.{Receiving, command_in, after_join, after_leave, after_move, after_packet, after_arrival, after_arrivals, received}

-- the command is of this frame
abbrev pub IsOfFrame : ℕ → Command → Type 0
IsOfFrame frame c = c.frame ≡ frame

join-of : (frame : ℕ) (to : Result JoinPoint Refusal) (r : Receiving) (place port : ℕ) → All (IsOfFrame frame) r.lists.moves → All (IsOfFrame frame) (after_join to r place port).lists.moves
join-of frame (Err why) r place port all = all
join-of frame (Ok to) r place port all = all

leave-of : (frame : ℕ) (to : Result LiveSlot Refusal) (r : Receiving) (place : ℕ) → All (IsOfFrame frame) r.lists.moves → All (IsOfFrame frame) (after_leave to r place).lists.moves
leave-of frame (Err why) r place all = all
leave-of frame (Ok live) r place all = all

commands-of : (frame slot : ℕ) (steps : List MovePacket) → All (IsOfFrame frame) (map_list (command_in frame slot) steps)
commands-of frame slot [] = All-nil (IsOfFrame frame)
commands-of frame slot (m ∷ steps) = All-cons (IsOfFrame frame) (command_in frame slot m) (map_list (command_in frame slot) steps) refl (commands-of frame slot steps)

move-of : (to : Result LiveSlot Refusal) (frame : ℕ) (steps : List MovePacket) (r : Receiving) (place : ℕ) → All (IsOfFrame frame) r.lists.moves
    → All (IsOfFrame frame) (after_move to frame steps r place).lists.moves
move-of (Err why) frame steps r place all = all
move-of (Ok live) frame steps r place all =
    let new = new_among live.client.last steps in
    All-append (IsOfFrame frame) r.lists.moves (map_list (command_in frame live.slot) new) all (commands-of frame live.slot new)

packet-of : (read : Result Packet PacketFault) (map : MapView) (frame : ℕ) (r : Receiving) (place port : ℕ) → All (IsOfFrame frame) r.lists.moves
    → All (IsOfFrame frame) (after_packet map frame read r place port).lists.moves
packet-of (Err why) map frame r place port all = all
packet-of (Ok Join) map frame r place port all = join-of frame (join_answer map r.state port) r place port all
packet-of (Ok (Move m)) map frame r place port all = move-of (move_answer r.state.clients port (commands_of (Move m))) frame (commands_of (Move m)) r place all
packet-of (Ok (Moves s)) map frame r place port all = move-of (move_answer r.state.clients port (commands_of (Moves s))) frame (commands_of (Moves s)) r place all
packet-of (Ok Leave) map frame r place port all = leave-of frame (leave_answer r.state.clients port) r place all

all-of : (map : MapView) (frame : ℕ) (r : Receiving) (place : ℕ) (arrivals : List Arrival) → All (IsOfFrame frame) r.lists.moves
    → All (IsOfFrame frame) (after_arrivals map frame r place arrivals).lists.moves
all-of map frame r place [] all = all
all-of map frame r place (a ∷ more) all = all-of map frame (after_arrival map frame r place a) (place + 1) more (packet-of (reading a.bytes) map frame r place a.port all)

-- the accepted moves of a frame are of that frame
pub moves_are_of_frame : (map : MapView) (frame : ℕ) (state : State) (arrivals : List Arrival) → All (IsOfFrame frame) (received map frame state arrivals).lists.moves
unfolding received
moves_are_of_frame map frame state arrivals = all-of map frame _ 0 arrivals (All-nil (IsOfFrame frame))
