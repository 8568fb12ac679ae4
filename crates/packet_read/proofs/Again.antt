-- A packet is read as it was written, and no two packets are written alike.
use Rattle.std.proofs.Common.{◌≡◌, ◌∙◌, ℕ, List, refl, sym, ap}
use Rattle.std.specs.Prelude.{drop, Ok}
use Rattle.std.proofs.lemmas.Bool.{le-ltb}
use Rattle.std.proofs.lemmas.Nat.{from_le_bytes-to_le_bytes_4}
use Rattle.packet_read.specs.declared.packet.Packet.{Packet}
use Rattle.packet_read.specs.declared.packet.Packet.TheVariants.{Join, Move, Leave, Moves}
use Rattle.packet_read.specs.Spelling.{spelling, Fits, IsAllowed}
use Rattle.packet_read.specs.Faults.{Form, join, move, leave, moves, form_in, seq_in, count_in, blocks_from}
use Rattle.packet_read.specs.Reading.{move_in, reading}
use Rattle.packet_read.proofs.Fields.{move_again}
use Rattle.packet_read.proofs.Blocks.{blocks_again}
use Rattle.packet_read.proofs.ManyMoves.{moves_again}

-- a packet is read as it was written
pub packet_again : (p : Packet) → Fits p → IsAllowed p → reading (spelling p) ≡ Ok p
packet_again Join fits allowed = refl
packet_again (Move m) fits allowed =
    rw (le-ltb m.ms 1 allowed.least, le-ltb 50 m.ms allowed.most, le-ltb 1 m.buttons allowed.buttons, move_again m fits) refl
packet_again Leave fits allowed = refl
packet_again (Moves s) fits allowed = moves_again s fits allowed

-- the packet that is in the bytes, with as many commands as are announced
abbrev whole_of : Form → List ℕ → Packet
whole_of join bytes = Join
whole_of move bytes = Move (move_in bytes)
whole_of leave bytes = Leave
whole_of moves bytes = Moves (record { seq = seq_in bytes; cmds = blocks_from (count_in bytes) (drop 7 bytes) })

whole_again : (p : Packet) → Fits p → whole_of (form_in (spelling p)) (spelling p) ≡ p
whole_again Join fits = refl
whole_again (Move m) fits = ap Move (move_again m fits)
whole_again Leave fits = refl
whole_again (Moves s) fits = rw (from_le_bytes-to_le_bytes_4 s.seq fits.seq, blocks_again s.cmds fits.blocks) refl

-- packets that are written alike are the same
pub same_packet : (p q : Packet) → Fits p → Fits q → spelling p ≡ spelling q → p ≡ q
same_packet p q left right e =
    sym (whole_again p left) ∙ ap (λ (bytes : List ℕ). whole_of (form_in bytes) bytes) e ∙ whole_again q right
