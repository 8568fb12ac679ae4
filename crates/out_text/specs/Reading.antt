-- What a line of the output is read as.
use Rattle.std.specs.Prelude.{ℕ, ℤ, ◌*◌, ◌==◌, Bool, ◌&&◌, ◌||◌, nat_le, List, [], ◌∷◌, length, map, find, Option, Some}
use Rattle.std.specs.Prelude.{None, Result, Ok, Err, codes, bytes_eq, if◌then◌else◌}
use Rattle.std.specs.List.{list_all, slice_split}
use Rattle.hex.specs.Hex.{decode_of}
use Rattle.edge_io.specs.Numbers.{natural_up_to, integer_up_to}
use Rattle.edge_io.specs.Fields.{◌>>=◌, cut, field_at}
use Rattle.arena_geo.specs.declared.vec3.Vec3.{Vec3}
use Rattle.client_ports.specs.declared.refusal.Refusal.{Refusal}
use Rattle.client_ports.specs.declared.refusal.Refusal.TheVariants.{Packet, Already, Full, Crowded, NotJoined, Leaving}
use Rattle.client_ports.specs.declared.refusal.Refusal.TheVariants.{Old, Many}
use Rattle.packet_read.specs.declared.packet_fault.PacketFault.TheVariants.{Empty, Version, Kind, Short, Long, Time}
use Rattle.packet_read.specs.declared.packet_fault.PacketFault.TheVariants.{Buttons, Count}
use Rattle.snapshot_write.specs.declared.reply_buf.TheConstants.{REPLY_ROOM}
use Rattle.out_text.specs.OutLines.{OutLine, FrameLine, FromLine, NoLine, JoinedLine, DidLine, ToLine, EndLine, name_of}
use Rattle.out_text.specs.Journals.{number_at, all_there, ids_in, value_at_end, is_coordinate}

-- the value, where it passes the test
abbrev pub value_if_passing : {X : Type 0} → (X → Bool) → Option X → Option X
value_if_passing test None = None
value_if_passing test (Some x) = if test x then Some x else None

-- a number of 32 bits with a sign
abbrev pub within : Option ℤ → Option ℤ
within z = value_if_passing is_coordinate z

-- a coordinate, and what follows it
abbrev pub coordinate_at : List ℕ → Option (ℤ × List ℕ)
coordinate_at rest = do
  field ← field_at rest
  z ← within (integer_up_to 2147483648 field.0)
  Some (z, field.1)

-- three coordinates, and what follows them
abbrev pub origin_at : List ℕ → Option (Vec3 × List ℕ)
origin_at rest = do
  x ← coordinate_at rest
  y ← coordinate_at x.1
  z ← coordinate_at y.1
  Some (record { x = x.0; y = y.0; z = z.0 }, z.1)

-- the parts between commas
abbrev pub parts_of : List ℕ → List (List ℕ)
parts_of text = slice_split (λ b. b == 44) text

-- numbers of 16 bits with a comma between any two
abbrev pub listed_in : List ℕ → Option (List ℕ)
listed_in text = all_there (map (natural_up_to 65535) (parts_of text))

-- at most 8 ids
abbrev pub few_ids : Option (List ℕ) → Option (List ℕ)
few_ids ids = value_if_passing (λ ids. nat_le (length ids) 8) ids

-- the refusals, each once
abbrev pub refusals : List Refusal
refusals =
    Packet Empty ∷ Packet Version ∷ Packet Kind ∷ Packet Short ∷ Packet Long ∷ Packet Time ∷ Packet Buttons
    ∷ Packet Count ∷ Already ∷ Full ∷ Crowded ∷ NotJoined ∷ Leaving ∷ Old ∷ Many ∷ []

-- the refusal with this name
abbrev pub refusal_of : List ℕ → Option Refusal
refusal_of name = find (λ why. bytes_eq (name_of why) name) refusals

-- a hexadecimal digit in lower case
abbrev pub is_lower_digit : ℕ → Bool
is_lower_digit b = (nat_le 48 b && nat_le b 57) || (nat_le 97 b && nat_le b 102)

-- the digits of 1 to 8,219 bytes, in lower case
abbrev pub is_hex_text : List ℕ → Bool
is_hex_text text = (nat_le 2 (length text) && nat_le (length text) (2 * REPLY_ROOM)) && list_all is_lower_digit text

-- the value, where there is no error
abbrev pub without_error : {X E : Type 0} → Result X E → Option X
without_error (Ok x) = Some x
without_error (Err e) = None

-- the bytes that such a text spells, two digits each
abbrev pub bytes_in : List ℕ → Option (List ℕ)
bytes_in text = if is_hex_text text then without_error (decode_of text) else None

-- the bytes of a packet: a dash for none, or the digits of at most 252
abbrev pub packet_in : List ℕ → Option (List ℕ)
packet_in text =
    if bytes_eq text (codes "-") then Some [] else value_if_passing (λ bytes. nat_le (length bytes) 252) (bytes_in text)

-- what the rest of a line says after its first word
abbrev pub frame_in : List ℕ → Option OutLine
frame_in rest = do
  frame ← number_at 4294967295 rest
  value_at_end (FrameLine frame.0) frame.1

abbrev pub from_in : List ℕ → Option OutLine
from_in rest = do
  port ← number_at 65535 rest
  text ← field_at port.1
  bytes ← packet_in text.0
  value_at_end (FromLine port.0 bytes) text.1

abbrev pub no_in : List ℕ → Option OutLine
no_in rest = do
  place ← number_at 4294967295 rest
  name ← field_at place.1
  why ← refusal_of name.0
  value_at_end (NoLine place.0 why) name.1

abbrev pub joined_in : List ℕ → Option OutLine
joined_in rest = do
  port ← number_at 65535 rest
  slot ← number_at 255 port.1
  value_at_end (JoinedLine port.0 slot.0) slot.1

abbrev pub did_line_in : List ℕ → Option OutLine
did_line_in rest = do
  slot ← number_at 255 rest
  seq ← number_at 4294967295 slot.1
  origin ← origin_at seq.1
  field ← field_at origin.1
  got ← few_ids (ids_in field.0)
  value_at_end (DidLine (record { slot = slot.0; seq = seq.0; origin = origin.0; got = got })) field.1

abbrev pub to_in : List ℕ → Option OutLine
to_in rest = do
  slot ← number_at 255 rest
  text ← field_at slot.1
  bytes ← bytes_in text.0
  value_at_end (ToLine slot.0 bytes) text.1

abbrev pub end_in : List ℕ → Option OutLine
end_in rest = do
  frames ← number_at 4294967295 rest
  value_at_end (EndLine frames.0) frames.1

-- what a line is read as, by its first word
abbrev pub line_in : List ℕ → Option OutLine
line_in line =
    if bytes_eq (cut line).0 (codes "frame") then frame_in (cut line).1
    else if bytes_eq (cut line).0 (codes "from") then from_in (cut line).1
    else if bytes_eq (cut line).0 (codes "no") then no_in (cut line).1
    else if bytes_eq (cut line).0 (codes "joined") then joined_in (cut line).1
    else if bytes_eq (cut line).0 (codes "did") then did_line_in (cut line).1
    else if bytes_eq (cut line).0 (codes "to") then to_in (cut line).1
    else if bytes_eq (cut line).0 (codes "end") then end_in (cut line).1
    else None
