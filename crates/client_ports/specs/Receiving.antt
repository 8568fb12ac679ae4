-- The receive pass: what the packets of a frame change, one after another.
use Rattle.std.specs.Prelude.{ℕ, ◌+◌, List, [], ◌∷◌, map as map_list, Result, Ok, Err}
use Rattle.entity_recs.specs.Commands.{Command}
use Rattle.packet_read.specs.declared.move_packet.MovePacket.{MovePacket}
use Rattle.packet_read.specs.declared.packet.Packet.{Packet}
use Rattle.packet_read.specs.declared.packet.Packet.TheVariants.{Join, Move, Leave, Moves}
use Rattle.packet_read.specs.declared.packet_fault.PacketFault.{PacketFault}
use Rattle.packet_read.specs.Commands.{commands_of}
use Rattle.packet_read.specs.Reading.{reading}
use Rattle.arena_map.specs.Maps.{MapView}
use Rattle.packet_read.specs.declared.arrival.Arrival.{Arrival}
use Rattle.client_ports.specs.declared.client.LiveSlot.{LiveSlot}
use Rattle.client_ports.specs.declared.refusal.Refusal.{Refusal}
use Rattle.client_ports.specs.declared.refusal.Refusal.TheVariants as refusal
use Rattle.client_ports.specs.declared.spawns.JoinPoint.{JoinPoint}
use Rattle.client_ports.specs.States.{State, with_newcomer, with_update}
use Rattle.client_ports.specs.Lists.{Lists, no_lists, with_moves, with_join, with_refusal}
use Rattle.client_ports.specs.NewMoves.{new_among}
use Rattle.client_ports.specs.FirstRefusals.{join_answer, leave_answer, with_new_moves, move_answer}

-- what the packets have come to so far: the state, and the lists
pub record Receiving : Type 0 where
  pub state : State
  pub lists : Lists

-- the state with these lists
abbrev pub receiving_of : State → Lists → Receiving
receiving_of state lists = record { state = state; lists = lists }

-- after a packet that is refused: the state is as it was
abbrev pub after_refusal : Receiving → ℕ → Refusal → Receiving
after_refusal r place why = receiving_of r.state (with_refusal r.lists place why)

-- after a join
abbrev pub after_join : Result JoinPoint Refusal → Receiving → ℕ → ℕ → Receiving
after_join (Err why) r place port = after_refusal r place why
after_join (Ok to) r place port =
    receiving_of (with_newcomer r.state port to.slot to.at) (with_join r.lists port to.slot)

-- after a leave
abbrev pub after_leave : Result LiveSlot Refusal → Receiving → ℕ → Receiving
after_leave (Err why) r place = after_refusal r place why
after_leave (Ok live) r place = receiving_of (with_update r.state live) r.lists

-- the command of a move in a frame
abbrev pub command_in : ℕ → ℕ → MovePacket → Command
command_in frame slot m =
    record {
      slot = slot;
      seq = m.seq;
      frame = frame;
      ms = m.ms;
      wish_x = m.wish_x;
      wish_y = m.wish_y;
      buttons = m.buttons;
    }

-- after a move packet with these commands: the new ones are accepted, in their order
abbrev pub after_move : Result LiveSlot Refusal → ℕ → List MovePacket → Receiving → ℕ → Receiving
after_move (Err why) frame steps r place = after_refusal r place why
after_move (Ok live) frame steps r place =
    let new = new_among live.client.last steps in
    receiving_of (with_update r.state (with_new_moves live new))
    (with_moves r.lists (map_list (command_in frame live.slot) new))

-- after a move packet of a port with these commands
abbrev pub after_commands : ℕ → List MovePacket → Receiving → ℕ → ℕ → Receiving
after_commands frame steps r place port = after_move (move_answer r.state.clients port steps) frame steps r place

-- after a packet
abbrev pub after_packet : MapView → ℕ → Result Packet PacketFault → Receiving → ℕ → ℕ → Receiving
after_packet map frame (Err why) r place port = after_refusal r place (refusal.Packet why)
after_packet map frame (Ok Join) r place port = after_join (join_answer map r.state port) r place port
after_packet map frame (Ok Leave) r place port = after_leave (leave_answer r.state.clients port) r place
after_packet map frame (Ok (Move m)) r place port = after_commands frame (commands_of (Move m)) r place port
after_packet map frame (Ok (Moves s)) r place port = after_commands frame (commands_of (Moves s)) r place port

-- after an arrival at this place of the frame
abbrev pub after_arrival : MapView → ℕ → Receiving → ℕ → Arrival → Receiving
after_arrival map frame r place a = after_packet map frame (reading a.bytes) r place a.port

-- after arrivals, the first of which has this place
abbrev pub after_arrivals : MapView → ℕ → Receiving → ℕ → List Arrival → Receiving
after_arrivals map frame r place [] = r
after_arrivals map frame r place (a ∷ more) =
    after_arrivals map frame (after_arrival map frame r place a) (place + 1) more

-- what the arrivals of a frame come to
unfoldable pub received : MapView → ℕ → State → List Arrival → Receiving
received map frame state arrivals = after_arrivals map frame (receiving_of state no_lists) 0 arrivals
