-- What bytes are read as.
use Rattle.std.specs.Prelude.{ℕ, List, [], ◌∷◌, Option, Some, None, Result, Ok, Err}
use Rattle.std.specs.Int.{w16, cast_signed, from_le_bytes}
use Rattle.byte_lists.specs.Bytes.{byte}
use Rattle.packet_read.specs.declared.move_packet.MovePacket.{MovePacket}
use Rattle.packet_read.specs.declared.moves_packet.MovesPacket.{MovesPacket}
use Rattle.packet_read.specs.declared.packet.Packet.{Packet}
use Rattle.packet_read.specs.declared.packet.Packet.TheVariants.{Join, Move, Leave, Moves}
use Rattle.packet_read.specs.declared.packet_fault.PacketFault.{PacketFault}
use Rattle.packet_read.specs.Faults.{Form, join, move, leave, moves, form_in, seq_in, blocks_in, fault_of}

-- the move whose fields are in the bytes at their places
abbrev pub move_in : List ℕ → MovePacket
move_in bytes = record {
  seq = seq_in bytes;
  ms = byte bytes 6;
  wish_x = cast_signed w16 (from_le_bytes w16 (byte bytes 7 ∷ byte bytes 8 ∷ []));
  wish_y = cast_signed w16 (from_le_bytes w16 (byte bytes 9 ∷ byte bytes 10 ∷ []));
  buttons = byte bytes 11;
}

-- the packet of version 2 whose fields are in the bytes at their places
abbrev pub moves_in : List ℕ → MovesPacket
moves_in bytes = record { seq = seq_in bytes; cmds = blocks_in bytes }

-- the packet of that form, with the fields that are in the bytes
abbrev pub packet_of : Form → List ℕ → Packet
packet_of join bytes = Join
packet_of move bytes = Move (move_in bytes)
packet_of leave bytes = Leave
packet_of moves bytes = Moves (moves_in bytes)

-- the fault where there is one, and else the packet
abbrev pub answer : Option PacketFault → Packet → Result Packet PacketFault
answer None p = Ok p
answer (Some fault) p = Err fault

-- what the bytes are read as
abbrev pub reading : List ℕ → Result Packet PacketFault
reading bytes = answer (fault_of bytes) (packet_of (form_in bytes) bytes)
