-- The commands of a packet, each with its number.
use Rattle.std.specs.Prelude.{ℕ, ◌+◌, ◌-◌, List, [], ◌∷◌, length}
use Rattle.packet_read.specs.declared.block_list.CmdBlock.{CmdBlock}
use Rattle.packet_read.specs.declared.move_packet.MovePacket.{MovePacket}
use Rattle.packet_read.specs.declared.moves_packet.MovesPacket.{MovesPacket}
use Rattle.packet_read.specs.declared.packet.Packet.{Packet}
use Rattle.packet_read.specs.declared.packet.Packet.TheVariants.{Join, Move, Leave, Moves}

-- the command as a move with this number
abbrev pub move_with_number : ℕ → CmdBlock → MovePacket
move_with_number seq b = record { seq = seq; ms = b.ms; wish_x = b.wish_x; wish_y = b.wish_y; buttons = b.buttons }

-- the commands as moves, of which the first has this number, and each other one more than that before it
abbrev pub moves_numbered_from : ℕ → List CmdBlock → List MovePacket
moves_numbered_from seq [] = []
moves_numbered_from seq (b ∷ more) = move_with_number seq b ∷ moves_numbered_from (seq + 1) more

-- the number of the oldest command, so that the newest has the packet's
abbrev pub first_seq : MovesPacket → ℕ
first_seq s = s.seq - (length s.cmds - 1)

-- the commands of a packet as moves with their numbers, the oldest first: a join or a leave has none
-- One list for both versions, so the receive pass has one rule: it keeps the numbers above the last accepted one.
abbrev pub commands_of : Packet → List MovePacket
commands_of Join = []
commands_of (Move m) = m ∷ []
commands_of Leave = []
commands_of (Moves s) = moves_numbered_from (first_seq s) s.cmds
