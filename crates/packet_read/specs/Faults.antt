-- Why bytes are no packet: the first rule that they break.
use Rattle.std.specs.Prelude.{ℕ, zero, suc, ◌+◌, ◌-◌, ◌*◌, min, ◌==◌, nat_lt, nat_le, Bool, false, not, ◌&&◌, []}
use Rattle.std.specs.Prelude.{◌||◌, if◌then◌else◌}
use Rattle.std.specs.Prelude.{List, ◌∷◌, length, drop, find, Option, Some, None}
use Rattle.std.specs.List.{list_any}
use Rattle.std.specs.Int.{w16, w32, cast_signed, from_le_bytes}
use Rattle.byte_lists.specs.Bytes.{byte}
use Rattle.packet_read.specs.declared.block_list.CmdBlock.{CmdBlock}
use Rattle.packet_read.specs.declared.packet_fault.PacketFault.{PacketFault}
use Rattle.packet_read.specs.declared.packet_fault.PacketFault.TheVariants.{Empty, Version, Kind, Short, Long, Time}
use Rattle.packet_read.specs.declared.packet_fault.PacketFault.TheVariants.{Buttons, Count}

-- ---- what the bytes announce

-- the forms of a packet: three of version 1, and that of version 2, which has several commands
pub data Form : Type 0 where
  join : Form
  move : Form
  leave : Form
  moves : Form

-- a version that is known
abbrev pub is_version : ℕ → Bool
is_version version = (version == 1) || (version == 2)

-- a kind of that version: in version 1 a join is 1, a move 2, a leave 3; version 2 has the kind 2 alone
abbrev pub is_kind : ℕ → ℕ → Bool
is_kind version kind = if version == 2 then kind == 2 else (version == 1) && (nat_le 1 kind && nat_le kind 3)

-- the form of a version and a kind
abbrev pub form_of : ℕ → ℕ → Form
form_of version kind =
    if version == 2 then moves
    else if kind == 1 then join
    else if kind == 2 then move
    else leave

-- the form that the bytes announce
abbrev pub form_in : List ℕ → Form
form_in bytes = form_of (byte bytes 0) (byte bytes 1)

-- the number of the newest command of a packet of version 2, and how many commands it announces
abbrev pub seq_in : List ℕ → ℕ
seq_in bytes = from_le_bytes w32 (byte bytes 2 ∷ byte bytes 3 ∷ byte bytes 4 ∷ byte bytes 5 ∷ [])

abbrev pub count_in : List ℕ → ℕ
count_in bytes = byte bytes 6

-- how many bytes a packet of the form has, which in version 2 depends on how many commands it announces
abbrev pub length_of : Form → List ℕ → ℕ
length_of join bytes = 2
length_of move bytes = 12
length_of leave bytes = 2
length_of moves bytes = 7 + 6 * min (count_in bytes) 3

-- ---- the commands of a packet of version 2

-- the command in the first six bytes
abbrev pub block_in : List ℕ → CmdBlock
block_in bytes = record {
  ms = byte bytes 0;
  wish_x = cast_signed w16 (from_le_bytes w16 (byte bytes 1 ∷ byte bytes 2 ∷ []));
  wish_y = cast_signed w16 (from_le_bytes w16 (byte bytes 3 ∷ byte bytes 4 ∷ []));
  buttons = byte bytes 5;
}

-- so many commands, six bytes each
abbrev pub blocks_from : ℕ → List ℕ → List CmdBlock
blocks_from zero bytes = []
blocks_from (suc more) bytes = block_in bytes ∷ blocks_from more (drop 6 bytes)

-- the commands of a packet of version 2: as many as it announces, and at most the first three
abbrev pub blocks_in : List ℕ → List CmdBlock
blocks_in bytes = blocks_from (min (count_in bytes) 3) (drop 7 bytes)

-- ---- the rules

-- a time of less than 1 or more than 50 milliseconds
abbrev pub is_wrong_time : ℕ → Bool
is_wrong_time ms = nat_lt ms 1 || nat_lt 50 ms

-- whether a command in the bytes lasts less than 1 or more than 50 milliseconds
abbrev pub has_wrong_time : Form → List ℕ → Bool
has_wrong_time join bytes = false
has_wrong_time move bytes = is_wrong_time (byte bytes 6)
has_wrong_time leave bytes = false
has_wrong_time moves bytes = list_any (λ b. is_wrong_time b.ms) (blocks_in bytes)

-- buttons with one above bit 1
abbrev pub is_above_the_shot : ℕ → Bool
is_above_the_shot buttons = nat_lt 3 buttons

-- whether a command in the bytes has a button above bit 0, or in version 2 above bit 1
abbrev pub has_unknown_button : Form → List ℕ → Bool
has_unknown_button join bytes = false
has_unknown_button move bytes = nat_lt 1 (byte bytes 11)
has_unknown_button leave bytes = false
has_unknown_button moves bytes = list_any (λ b. is_above_the_shot b.buttons) (blocks_in bytes)

-- no command, more than 3, or more than there are numbers from 0 to the newest
abbrev pub is_wrong_count : ℕ → ℕ → Bool
is_wrong_count count seq = (count == 0) || (nat_lt 3 count || nat_lt seq (count - 1))

-- whether a packet of version 2 announces no command, more than 3, or more than there are numbers from 0 to the newest
abbrev pub has_wrong_count : Form → List ℕ → Bool
has_wrong_count join bytes = false
has_wrong_count move bytes = false
has_wrong_count leave bytes = false
has_wrong_count moves bytes = is_wrong_count (count_in bytes) (seq_in bytes)

-- whether the bytes break the rule that the fault is named for
abbrev pub breaks : List ℕ → PacketFault → Bool
breaks bytes Empty = length bytes == 0
breaks bytes Version = not (is_version (byte bytes 0))
breaks bytes Kind = nat_le 2 (length bytes) && not (is_kind (byte bytes 0) (byte bytes 1))
breaks bytes Short = (length bytes == 1) || nat_lt (length bytes) (length_of (form_in bytes) bytes)
breaks bytes Long = nat_lt (length_of (form_in bytes) bytes) (length bytes)
breaks bytes Time = has_wrong_time (form_in bytes) bytes
breaks bytes Buttons = has_unknown_button (form_in bytes) bytes
breaks bytes Count = has_wrong_count (form_in bytes) bytes

-- the faults, in the order in which their rules are asked
abbrev pub faults : List PacketFault
faults = Empty ∷ Version ∷ Kind ∷ Short ∷ Long ∷ Time ∷ Buttons ∷ Count ∷ []

-- the fault of bytes that are no packet: the first whose rule they break
abbrev pub fault_of : List ℕ → Option PacketFault
fault_of bytes = find (breaks bytes) faults

-- of a packet of version 2 with its whole length: the first rule of times, buttons and their number that is broken
abbrev pub block_fault_of : List CmdBlock → ℕ → ℕ → Option PacketFault
block_fault_of blocks count seq =
    if list_any (λ b. is_wrong_time b.ms) blocks then Some Time
    else if list_any (λ b. is_above_the_shot b.buttons) blocks then Some Buttons
    else if is_wrong_count count seq then Some Count
    else None
