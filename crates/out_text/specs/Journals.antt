-- The journals of a text, read off its `did` lines.
use Rattle.std.specs.Prelude.{ℕ, ◌==◌, Bool, ◌&&◌, nat_le, List, [], ◌∷◌, length, map, Option, Some, None, codes}
use Rattle.std.specs.Prelude.{bytes_eq, ℤ, pos, int_lt, unsigned_abs, if◌then◌else◌}
use Rattle.std.specs.List.{list_all, slice_split}
use Rattle.edge_io.specs.Numbers.{natural_up_to, integer_up_to}
use Rattle.edge_io.specs.Fields.{cut, field_at}
use Rattle.edge_io.specs.Fields.{◌>>=◌}
use Rattle.edge_io.specs.WholeLines.{whole_lines}
use Rattle.entity_recs.specs.declared.effect.Entry.{Entry}
use Rattle.out_text.specs.Dids.{Did, journal_from}
use Rattle.out_text.specs.OutLines.{OutLine, FrameLine, DidLine, line_spelling}

-- a number of at most limit, and what follows it
abbrev pub number_at : ℕ → List ℕ → Option (ℕ × List ℕ)
number_at limit rest = do
  field ← field_at rest
  n ← natural_up_to limit field.0
  Some (n, field.1)

-- an integer of at most 2147483648 from 0, and what follows it
abbrev pub integer_at : List ℕ → Option (ℤ × List ℕ)
integer_at rest = do
  field ← field_at rest
  z ← integer_up_to 2147483648 field.0
  Some (z, field.1)

-- all of them, where each is there
abbrev pub all_there : {X : Type 0} → List (Option X) → Option (List X)
all_there [] = Some []
all_there (None ∷ xs) = None
all_there (Some x ∷ xs) = do
  rest ← all_there xs
  Some (x ∷ rest)

-- ids with a comma between any two, or a dash for none
abbrev pub ids_in : List ℕ → Option (List ℕ)
ids_in text =
    if bytes_eq text (codes "-")
    then Some [] else all_there (map (natural_up_to 65535) (slice_split (λ b. b == 44) text))

-- a value, where nothing follows it
abbrev pub value_at_end : {X : Type 0} → X → List ℕ → Option X
value_at_end x [] = Some x
value_at_end x (b ∷ bytes) = None

-- what a `did` line reports after its first word
abbrev pub did_in : List ℕ → Option Did
did_in rest = do
  slot ← number_at 255 rest
  seq ← number_at 4294967295 slot.1
  x ← integer_at seq.1
  y ← integer_at x.1
  z ← integer_at y.1
  got ← field_at z.1
  ids ← ids_in got.0
  value_at_end (record { slot = slot.0; seq = seq.0; origin = record { x = x.0; y = y.0; z = z.0 }; got = ids }) got.1

-- what a line is to the journals: it opens a frame, reports a move, or neither
pub data Mark : Type 0 where
  Opens : Mark
  Reports : (did : Did) → Mark
  Other : Mark

-- a coordinate of 32 bits: it is below 2^31, and not below -2^31
abbrev pub is_coordinate : ℤ → Bool
is_coordinate z = int_lt z (pos 2147483648) && nat_le (unsigned_abs z) 2147483648

-- the slot and the sequence number fit their types
abbrev pub has_numbers : Did → Bool
has_numbers d = nat_le d.slot 255 && nat_le d.seq 4294967295

-- so does each coordinate
abbrev pub has_coordinates : Did → Bool
has_coordinates d = is_coordinate d.origin.x && (is_coordinate d.origin.y && is_coordinate d.origin.z)

-- at most 8 ids were got, each of 16 bits
abbrev pub has_ids : Did → Bool
has_ids d = nat_le (length d.got) 8 && list_all (λ id. nat_le id 65535) d.got

-- what a `did` line can report
abbrev pub is_reportable : Did → Bool
is_reportable d = has_numbers d && (has_coordinates d && has_ids d)

-- the mark, where the line is this one's spelling
abbrev pub where_spelled : List ℕ → OutLine → Mark → Mark
where_spelled line out mark = if bytes_eq line (line_spelling out) then mark else Other

-- a line that reads as that of a frame with this number
abbrev pub frame_mark : List ℕ → Option (ℕ × List ℕ) → Mark
frame_mark line None = Other
frame_mark line (Some frame) = if nat_le frame.0 4294967295 then where_spelled line (FrameLine frame.0) Opens else Other

-- a line that reads as the report of this move
abbrev pub did_mark : List ℕ → Option Did → Mark
did_mark line None = Other
did_mark line (Some d) = if is_reportable d then where_spelled line (DidLine d) (Reports d) else Other

-- what a line is: exactly the lines of frames open one, and exactly the `did` lines report a move
abbrev pub mark_of : List ℕ → Mark
mark_of line =
    if bytes_eq (cut line).0 (codes "frame") then frame_mark line (number_at 4294967295 (cut line).1)
    else if bytes_eq (cut line).0 (codes "did") then did_mark line (did_in (cut line).1)
    else Other

-- the moves reported before the first frame, and those of each frame
pub record Split : Type 0 where
  pub before : List Did
  pub frames : List (List Did)

abbrev pub onto : Mark → Split → Split
onto Opens s = record { before = []; frames = s.before ∷ s.frames }
onto (Reports d) s = record { before = d ∷ s.before; frames = s.frames }
onto Other s = s

abbrev pub split_at_frames : List Mark → Split
split_at_frames [] = record { before = []; frames = [] }
split_at_frames (mark ∷ marks) = onto mark (split_at_frames marks)

-- the journal of each frame: the entries that its `did` lines spell, the place being the line's index
abbrev pub dids : List ℕ → List (List Entry)
dids text = map (journal_from 0) (split_at_frames (map mark_of (whole_lines text))).frames
