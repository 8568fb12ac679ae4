-- Which lines are in range: their numbers fit their types, at most 8 ids were got, a packet has at most 252 bytes, and a
-- snapshot has 1 to 8,219.
use Rattle.std.specs.Prelude.{◌≡◌, ℕ, ◌^◌, ◌<◌, ◌≤◌, List, length}
use Rattle.std.specs.List.{AllByRecursion}
use Rattle.packet_read.specs.declared.arrival.TheConstants.{MOST_BYTES}
use Rattle.snapshot_write.specs.declared.reply_buf.TheConstants.{REPLY_ROOM}
use Rattle.arena_geo.specs.Vectors.{Fits}
use Rattle.out_text.specs.Dids.{Did}
use Rattle.out_text.specs.OutLines.{OutLine, FrameLine, FromLine, NoLine, JoinedLine, DidLine, ToLine, EndLine, line_spelling}

-- a port, and a packet's bytes
pub record IsPacketInRange (port : ℕ) (bytes : List ℕ) : Type 0 where
  pub port_fits : port < 2 ^ 16
  pub most : length bytes ≤ MOST_BYTES
  pub are_bytes : AllByRecursion (λ b. b < 2 ^ 8) bytes

-- a port and a slot
pub record IsJoinInRange (port slot : ℕ) : Type 0 where
  pub port_fits : port < 2 ^ 16
  pub slot_fits : slot < 2 ^ 8

-- a report of a move
pub record IsDidInRange (d : Did) : Type 0 where
  pub slot : d.slot < 2 ^ 8
  pub seq : d.seq < 2 ^ 32
  pub origin : Fits d.origin
  pub few : length d.got ≤ 8
  pub got : AllByRecursion (λ id. id < 2 ^ 16) d.got

-- a snapshot for a slot
pub record IsSnapshotInRange (slot : ℕ) (bytes : List ℕ) : Type 0 where
  pub slot_fits : slot < 2 ^ 8
  pub some : 1 ≤ length bytes
  pub most : length bytes ≤ REPLY_ROOM
  pub are_bytes : AllByRecursion (λ b. b < 2 ^ 8) bytes

-- the line is in range
abbrev pub IsInRange : OutLine → Type 0
IsInRange (FrameLine frame) = frame < 2 ^ 32
IsInRange (FromLine port bytes) = IsPacketInRange port bytes
IsInRange (NoLine place why) = place < 2 ^ 32
IsInRange (JoinedLine port slot) = IsJoinInRange port slot
IsInRange (DidLine d) = IsDidInRange d
IsInRange (ToLine slot bytes) = IsSnapshotInRange slot bytes
IsInRange (EndLine frames) = frames < 2 ^ 32

-- the text is what is printed of the line, which is in range
pub record IsPrinted (text : List ℕ) (l : OutLine) : Type 0 where
  pub in_range : IsInRange l
  pub spelled : text ≡ line_spelling l

-- a packet has at most 252 bytes, and a snapshot has at least one byte and fits a reply
abbrev pub HasRoom : OutLine → Type 0
HasRoom (FromLine port bytes) = length bytes ≤ MOST_BYTES
HasRoom (ToLine slot bytes) = (1 ≤ length bytes) × (length bytes ≤ REPLY_ROOM)
HasRoom _ = Unit {0}
