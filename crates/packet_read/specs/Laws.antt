-- What holds of spellings and faults.
use Rattle.std.specs.Prelude.{◌≡◌, ◌↔◌, ℕ, ◌+◌, List, [], ◌∷◌, length, Some, None, option_map, Ok, Err}
use Rattle.std.specs.List.{slice_get}
pub use Rattle.byte_lists.specs.Bytes.{AreBytes}
use Rattle.packet_read.specs.declared.block_list.CmdBlock.{CmdBlock}
use Rattle.packet_read.specs.declared.move_packet.MovePacket.{MovePacket}
use Rattle.packet_read.specs.declared.moves_packet.MovesPacket.{MovesPacket}
use Rattle.packet_read.specs.declared.packet.Packet.{Packet}
use Rattle.packet_read.specs.declared.packet.Packet.TheVariants.{Join, Move, Leave, Moves}
use Rattle.packet_read.specs.declared.packet_fault.PacketFault.{PacketFault}
use Rattle.packet_read.specs.declared.block_list.TheConstants.{MOST_BLOCKS}
use Rattle.packet_read.specs.declared.packet_bytes.TheConstants.{MOST_PACKET_BYTES}
use Rattle.packet_read.specs.Spelling.{spelling, IsAllowedMoves, Fits, Spells}
use Rattle.packet_read.specs.Commands.{move_with_number, first_seq, commands_of}
use Rattle.packet_read.specs.Faults.{fault_of}
use Rattle.packet_read.specs.Reading.{reading}

-- the bytes spell some packet
pub record SpellsSome (bytes : List ℕ) : Type 0 where
  pub packet : Packet
  pub spells : Spells bytes packet

-- bytes have no fault exactly where they spell some packet
abbrev pub NoFaultWhereSpelled : Type 0
NoFaultWhereSpelled = (bytes : List ℕ) → AreBytes bytes → (fault_of bytes ≡ None) ↔ SpellsSome bytes

-- a packet has one spelling, and no two packets have the same
pub record OneSpelling : Type 0 where
  pub of_a_packet : (p : Packet) (a b : List ℕ) → Spells a p → Spells b p → a ≡ b
  pub of_no_other : (p q : Packet) → Fits p → Fits q → spelling p ≡ spelling q → p ≡ q

-- bytes are read as a packet exactly where they spell it, and else as their fault
pub record ReadWhereSpelled : Type 0 where
  pub packet : (bytes : List ℕ) → AreBytes bytes → (p : Packet) → (reading bytes ≡ Ok p) ↔ Spells bytes p
  pub fault : (bytes : List ℕ) (fault : PacketFault) → (reading bytes ≡ Err fault) ↔ (fault_of bytes ≡ Some fault)

-- the numbers that the lists cite
pub record LimitsAreKnown : Type 0 where
  pub most_bytes : MOST_PACKET_BYTES ≡ 64
  pub most_commands : MOST_BLOCKS ≡ 3

-- the command has this number and the fields of this block
pub record IsNumbered (seq : ℕ) (block : CmdBlock) (command : MovePacket) : Type 0 where
  pub seq_is : command.seq ≡ seq
  pub ms_is : command.ms ≡ block.ms
  pub wish_x_is : command.wish_x ≡ block.wish_x
  pub wish_y_is : command.wish_y ≡ block.wish_y
  pub buttons_are : command.buttons ≡ block.buttons

-- a move packet of version 1 is its own one command, and a join or a leave has none; a packet of version 2 has as many
-- commands as blocks: command i, from 0, has the fields of block i, and a number i above the first; within the limits the
-- newest has the packet's number
pub record CommandsAreNumbered : Type 0 where
  pub move : (m : MovePacket) → commands_of (Move m) ≡ m ∷ []
  pub join : commands_of Join ≡ []
  pub leave : commands_of Leave ≡ []
  pub many : (s : MovesPacket) → length (commands_of (Moves s)) ≡ length s.cmds
  pub each : (s : MovesPacket) (i : ℕ)
      → slice_get (commands_of (Moves s)) i ≡ option_map (move_with_number (first_seq s + i)) (slice_get s.cmds i)
  pub fields : (seq : ℕ) (block : CmdBlock) → IsNumbered seq block (move_with_number seq block)
  pub newest : (s : MovesPacket) → IsAllowedMoves s → first_seq s + length s.cmds ≡ s.seq + 1
