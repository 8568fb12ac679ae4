-- What holds of the new commands of a packet: they rise, and are some of its commands.
use Rattle.std.proofs.Common.{◌≡◌, ℕ, ◌+◌, ◌≤◌, Bool, true, false, cond, nat_lt, List, [], ◌∷◌, length, drop, Option, Some, None, Result, Ok, Err, refl, ap, subst, arith}
use Rattle.std.specs.Prelude.{min}
use Rattle.std.specs.List.{All}
use Rattle.std.proofs.Math.Nat.{min-le_right}
use Rattle.std.proofs.lemmas.List.Elements.{All-nil, All-head, All-tail, All-cons}
use Rattle.std.proofs.lemmas.List.Sums.{length-filter, count_by-le-length}
use Rattle.std.proofs.lemmas.Bool.{ltb-false, ltb-true}
use Rattle.packet_read.specs.declared.move_packet.MovePacket.{MovePacket}
use Rattle.packet_read.specs.declared.packet.Packet.{Packet}
use Rattle.packet_read.specs.declared.packet.Packet.TheVariants.{Join, Move, Leave, Moves}
use Rattle.packet_read.specs.declared.block_list.CmdBlock.{CmdBlock}
use Rattle.packet_read.specs.declared.packet_fault.PacketFault.{PacketFault}
use Rattle.packet_read.specs.declared.moves_packet.MovesPacket.{MovesPacket}
use Rattle.packet_read.specs.Commands.{commands_of, move_with_number, moves_numbered_from, first_seq}
use Rattle.packet_read.specs.Spelling.{IsAllowedBlock, IsAllowedMoves}
use Rattle.packet_read.specs.Faults as faults
use Rattle.packet_read.specs.Faults.{Form, form_in, blocks_in, fault_of, count_in, seq_in}
use Rattle.packet_read.specs.Reading.{reading, packet_of, answer}
use Rattle.packet_read.proofs.Numbers.{length-numbered}
use Rattle.packet_read.proofs.Blocks.{length_blocks}
use Rattle.client_ports.specs.NewMoves.{new_among, numbers_in, RiseFrom, TakesItsTime}

-- the numbers rise, whatever the first is
abbrev pub Rise : List ℕ → Type 0
Rise [] = Unit {0}
Rise (n ∷ more) = RiseFrom n more

rise-tail : (n : ℕ) (xs : List ℕ) → RiseFrom n xs → Rise xs
rise-tail n [] rise = tt
rise-tail n (m ∷ xs) rise = rise.1

-- numbers that rise from one at least as high as the last accepted one are all new
new-from : (last n : ℕ) (steps : List MovePacket) → last ≤ n → RiseFrom n (numbers_in steps) → RiseFrom n (numbers_in (new_among last steps))
new-from last n [] low rise = tt
new-from last n (m ∷ steps) low rise = by (nat_lt last m.seq) refl (new-from last m.seq steps (let h = rise.0 in omega (arith, low, h)) rise.1)
  where
    by : (b : Bool) → nat_lt last m.seq ≡ b → RiseFrom m.seq (numbers_in (new_among last steps)) → RiseFrom n (numbers_in (cond b (m ∷ new_among last steps) (new_among last steps)))
    by true e rest = (rise.0, rest)
    by false e rest = let h = ltb-false last m.seq e in let k = rise.0 in absurd (omega (arith, low, h, k))

-- the new numbers rise from the last accepted one
pub new-rise : (last : ℕ) (steps : List MovePacket) → Rise (numbers_in steps) → RiseFrom last (numbers_in (new_among last steps))
new-rise last [] rise = tt
new-rise last (m ∷ steps) rise = by (nat_lt last m.seq) refl (new-rise last steps (rise-tail m.seq (numbers_in steps) rise))
  where
    by : (b : Bool) → nat_lt last m.seq ≡ b → RiseFrom last (numbers_in (new_among last steps)) → RiseFrom last (numbers_in (cond b (m ∷ new_among last steps) (new_among last steps)))
    by true e more = let h = ltb-true last m.seq e in (h, new-from last m.seq steps (omega (arith, h)) rise)
    by false e more = more

-- numbered commands have numbers that rise
numbered-above : (n : ℕ) (blocks : List CmdBlock) → RiseFrom n (numbers_in (moves_numbered_from (n + 1) blocks))
numbered-above n [] = tt
numbered-above n (b ∷ more) = (omega arith, numbered-above (n + 1) more)

numbered-rise : (first : ℕ) (blocks : List CmdBlock) → Rise (numbers_in (moves_numbered_from first blocks))
numbered-rise first [] = tt
numbered-rise first (b ∷ more) = numbered-above first more

-- the numbers of a packet's commands rise
pub commands-rise : (p : Packet) → Rise (numbers_in (commands_of p))
commands-rise Join = tt
commands-rise (Move m) = tt
commands-rise Leave = tt
commands-rise (Moves s) = numbered-rise (first_seq s) s.cmds

-- no more commands are new than there are
pub new-few : (last : ℕ) (steps : List MovePacket) → length (new_among last steps) ≤ length steps
new-few last steps =
    let count = length-filter (λ (m : MovePacket). nat_lt last m.seq) steps in
    let few = count_by-le-length (λ (m : MovePacket). nat_lt last m.seq) steps in
    omega (arith, count, few)

-- ---- a packet that is read

-- a packet of any form has at most 3 commands
form-few : (form : Form) (bytes : List ℕ) → length (commands_of (packet_of form bytes)) ≤ 3
form-few faults.join bytes = omega arith
form-few faults.move bytes = omega arith
form-few faults.leave bytes = omega arith
form-few faults.moves bytes =
    let blocks = blocks_in bytes in
    let count = length_blocks (min (count_in bytes) 3) (drop 7 bytes) in
    let all = length-numbered (first_seq (record { seq = seq_in bytes; cmds = blocks })) blocks in
    omega (arith, count, all, min-le_right (count_in bytes) 3)

-- a packet that is read has at most 3 commands
pub read-few : (bytes : List ℕ) (p : Packet) → reading bytes ≡ Ok p → length (commands_of p) ≤ 3
read-few bytes p e = by (fault_of bytes) e
  where
    same : (q : Packet) → ◌≡◌ {A = Result Packet PacketFault} (Ok q) (Ok p) → q ≡ p
    same q h = ap (λ (r : Result Packet PacketFault). elim r [ Ok v ↦ v | Err f ↦ p ]) h

    by : (o : Option PacketFault) → answer o (packet_of (form_in bytes) bytes) ≡ Ok p → length (commands_of p) ≤ 3
    by (Some fault) h = cc
    by None h = subst (λ (q : Packet). length (commands_of q) ≤ 3) (same (packet_of (form_in bytes) bytes) h) (form-few (form_in bytes) bytes)

-- numbered commands take their time
numbered-time : (first : ℕ) (blocks : List CmdBlock) → All IsAllowedBlock blocks → All TakesItsTime (moves_numbered_from first blocks)
numbered-time first [] allowed = All-nil TakesItsTime
numbered-time first (b ∷ more) allowed =
    let one = All-head IsAllowedBlock b more allowed in
    All-cons TakesItsTime (move_with_number first b) (moves_numbered_from (first + 1) more) (record { least = one.least; most = one.most })
    (numbered-time (first + 1) more (All-tail IsAllowedBlock b more allowed))

-- and so do the commands of a packet of version 2
pub steps-time : (s : MovesPacket) → IsAllowedMoves s → All TakesItsTime (commands_of (Moves s))
steps-time s allowed = numbered-time (first_seq s) s.cmds allowed.blocks
