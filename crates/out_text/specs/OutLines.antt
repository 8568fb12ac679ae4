-- The lines of the output, and how each is spelled.
use Rattle.std.specs.Prelude.{ℕ, List, [], ◌∷◌, ◌++◌, map, flat_map, codes, decimal}
use Rattle.std.specs.List.{join_with_byte}
use Rattle.std.specs.Fmt.{signed_decimal}
use Rattle.hex.specs.Hex.{encode_lower}
use Rattle.demo_lines.specs.Spelling.{packet_text}
use Rattle.client_ports.specs.declared.refusal.Refusal.{Refusal}
use Rattle.client_ports.specs.declared.refusal.Refusal.TheVariants.{Packet, Already, Full, Crowded, NotJoined, Leaving}
use Rattle.client_ports.specs.declared.refusal.Refusal.TheVariants.{Old, Many}
use Rattle.packet_read.specs.declared.packet_fault.PacketFault.{PacketFault}
use Rattle.packet_read.specs.declared.packet_fault.PacketFault.TheVariants.{Empty, Version, Kind, Short, Long, Time}
use Rattle.packet_read.specs.declared.packet_fault.PacketFault.TheVariants.{Buttons, Count}
use Rattle.out_text.specs.Dids.{Did}

-- one line of the output
pub data OutLine : Type 0 where
  FrameLine : (frame : ℕ) → OutLine
  FromLine : (port : ℕ) → (bytes : List ℕ) → OutLine
  NoLine : (place : ℕ) → (why : Refusal) → OutLine
  JoinedLine : (port : ℕ) → (slot : ℕ) → OutLine
  DidLine : (did : Did) → OutLine
  ToLine : (slot : ℕ) → (bytes : List ℕ) → OutLine
  EndLine : (frames : ℕ) → OutLine

-- the name of a packet's fault
abbrev pub fault_name_of : PacketFault → List ℕ
fault_name_of Empty = codes "Empty"
fault_name_of Version = codes "Version"
fault_name_of Kind = codes "Kind"
fault_name_of Short = codes "Short"
fault_name_of Long = codes "Long"
fault_name_of Time = codes "Time"
fault_name_of Buttons = codes "Buttons"
fault_name_of Count = codes "Count"

-- a refusal's name
abbrev pub name_of : Refusal → List ℕ
name_of (Packet fault) = fault_name_of fault
name_of Already = codes "Already"
name_of Full = codes "Full"
name_of Crowded = codes "Crowded"
name_of NotJoined = codes "NotJoined"
name_of Leaving = codes "Leaving"
name_of Old = codes "Old"
name_of Many = codes "Many"

-- ids with a comma between any two, or a dash for none
abbrev pub ids_text : List ℕ → List ℕ
ids_text [] = codes "-"
ids_text (id ∷ ids) = join_with_byte 44 (map decimal (id ∷ ids))

-- a line without its line feed
abbrev pub line_spelling : OutLine → List ℕ
line_spelling (FrameLine frame) = codes "frame " ++ decimal frame
line_spelling (FromLine port bytes) = codes "from " ++ decimal port ++ codes " " ++ packet_text bytes
line_spelling (NoLine place why) = codes "no " ++ decimal place ++ codes " " ++ name_of why
line_spelling (JoinedLine port slot) = codes "joined " ++ decimal port ++ codes " " ++ decimal slot
line_spelling (DidLine e) =
    codes "did " ++ decimal e.slot ++ codes " " ++ decimal e.seq ++ codes " " ++ signed_decimal e.origin.x
    ++ codes " " ++ signed_decimal e.origin.y ++ codes " " ++ signed_decimal e.origin.z ++ codes " " ++ ids_text e.got
line_spelling (ToLine slot bytes) = codes "to " ++ decimal slot ++ codes " " ++ encode_lower bytes
line_spelling (EndLine frames) = codes "end " ++ decimal frames

-- a line and its line feed
abbrev pub printed_line : OutLine → List ℕ
printed_line line = line_spelling line ++ 10 ∷ []

-- lines, each ended by a line feed
abbrev pub text_of : List OutLine → List ℕ
text_of lines = flat_map printed_line lines
