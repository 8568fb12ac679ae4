-- What a packet is as bytes.
use Rattle.std.specs.Prelude.{◌≡◌, ℕ, ◌+◌, ◌^◌, ◌<◌, ◌≤◌, List, [], ◌∷◌, ◌++◌, length, flat_map, All, FitsSigned}
use Rattle.std.specs.Int.{w16, w32, cast_unsigned, to_le_bytes}
use Rattle.packet_read.specs.declared.block_list.CmdBlock.{CmdBlock}
use Rattle.packet_read.specs.declared.move_packet.MovePacket.{MovePacket}
use Rattle.packet_read.specs.declared.moves_packet.MovesPacket.{MovesPacket}
use Rattle.packet_read.specs.declared.packet.Packet.{Packet}
use Rattle.packet_read.specs.declared.packet.Packet.TheVariants.{Join, Move, Leave, Moves}

-- ---- bytes

-- the fields of a move, each with its lowest byte first: number, time, the wish along x and along y, buttons
abbrev pub move_fields : MovePacket → List ℕ
move_fields m =
    to_le_bytes w32 m.seq
    ++ m.ms ∷ to_le_bytes w16 (cast_unsigned w16 m.wish_x)
    ++ to_le_bytes w16 (cast_unsigned w16 m.wish_y)
    ++ m.buttons ∷ []

-- the fields of a command of version 2, each with its lowest byte first: time, the wish along x and along y, buttons
abbrev pub block_fields : CmdBlock → List ℕ
block_fields b =
    b.ms ∷ to_le_bytes w16 (cast_unsigned w16 b.wish_x)
    ++ to_le_bytes w16 (cast_unsigned w16 b.wish_y)
    ++ b.buttons ∷ []

-- the fields of a packet of version 2: the number of the newest command, how many commands there are, and the commands
abbrev pub moves_fields : MovesPacket → List ℕ
moves_fields s = to_le_bytes w32 s.seq ++ length s.cmds ∷ flat_map block_fields s.cmds

-- the spelling of a packet: the version, the kind, and its fields
abbrev pub spelling : Packet → List ℕ
spelling Join = 1 ∷ 1 ∷ []
spelling (Move m) = 1 ∷ 2 ∷ move_fields m
spelling Leave = 1 ∷ 3 ∷ []
spelling (Moves s) = 2 ∷ 2 ∷ moves_fields s

-- ---- limits

-- the limits of a move of version 1: 1 to 50 milliseconds, and no button but the jump
pub record IsAllowedMove (m : MovePacket) : Type 0 where
  pub least : 1 ≤ m.ms
  pub most : m.ms ≤ 50
  pub buttons : m.buttons ≤ 1

-- the limits of a command of version 2: 1 to 50 milliseconds, and no button but the jump and the shot
pub record IsAllowedBlock (b : CmdBlock) : Type 0 where
  pub least : 1 ≤ b.ms
  pub most : b.ms ≤ 50
  pub buttons : b.buttons ≤ 3

-- the limits of a packet of version 2: 1 to 3 commands, no more than there are numbers from 0 to the newest
pub record IsAllowedMoves (s : MovesPacket) : Type 0 where
  pub some : 1 ≤ length s.cmds
  pub few : length s.cmds ≤ 3
  pub numbers : length s.cmds ≤ s.seq + 1
  pub blocks : All IsAllowedBlock s.cmds

-- the packet is within the limits
abbrev pub IsAllowed : Packet → Type 0
IsAllowed Join = Unit {0}
IsAllowed (Move m) = IsAllowedMove m
IsAllowed Leave = Unit {0}
IsAllowed (Moves s) = IsAllowedMoves s

-- ---- types

-- each field of a move fits its type
pub record MoveFits (m : MovePacket) : Type 0 where
  pub seq : m.seq < 2 ^ 32
  pub ms : m.ms < 2 ^ 8
  pub wish_x : FitsSigned w16 m.wish_x
  pub wish_y : FitsSigned w16 m.wish_y
  pub buttons : m.buttons < 2 ^ 8

-- each field of a command of version 2 fits its type
pub record BlockFits (b : CmdBlock) : Type 0 where
  pub ms : b.ms < 2 ^ 8
  pub wish_x : FitsSigned w16 b.wish_x
  pub wish_y : FitsSigned w16 b.wish_y
  pub buttons : b.buttons < 2 ^ 8

-- each field of a packet of version 2 fits its type
pub record MovesFit (s : MovesPacket) : Type 0 where
  pub seq : s.seq < 2 ^ 32
  pub blocks : All BlockFits s.cmds

-- each field of the packet fits its type
abbrev pub Fits : Packet → Type 0
Fits Join = Unit {0}
Fits (Move m) = MoveFits m
Fits Leave = Unit {0}
Fits (Moves s) = MovesFit s

-- the bytes spell the packet
pub record Spells (bytes : List ℕ) (p : Packet) : Type 0 where
  pub fits : Fits p
  pub allowed : IsAllowed p
  pub spelled : bytes ≡ spelling p
