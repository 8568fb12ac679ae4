-- What the top call reads from its source and writes to its sink.
use Rattle.std.specs.Prelude.{◌≡◌, ℕ, ◌≤◌, false, List, ◌++◌, length, Option}
use Rattle.std.specs.List.{AllByRecursion}
use Rattle.std.specs.Io.KnownBytes.{Appends, Consumes}
use Rattle.entity_recs.specs.declared.effect.Entry.{Entry}
use Rattle.packet_read.specs.declared.arrival.Arrival.{Arrival}
use Rattle.edge_io.specs.declared.line_reader.TheConstants.{LONGEST}
use Rattle.edge_io.specs.Lines.{HasNoLineFeed}
use Rattle.edge_io.specs.WholeLines.{unlines}
use Rattle.demo_lines.specs.Consumed as consumed
use Rattle.demo_lines.specs.Known.{start, is_over}
use Rattle.demo_lines.specs.Recording.{after}
use Rattle.demo_lines.specs.Bytes.{map_of}
use Rattle.out_text.specs.Collecting.{frames_of}
use Rattle.out_text.specs.Output.{AreRightIn, AreInOrderIn, out_text}
use Rattle.out_text.specs.Feeds.{AreFeedsOf, fed_output}

-- something was written, and P of it
pub record Writes (old new : Option (List ℕ)) (P : List ℕ → Type 0) : Type 0 where
  pub text : List ℕ
  pub written : Appends old new text
  pub holds : P text

-- lines with their line feeds and the front of one more were taken from the source, which the recording still goes on
-- to, and such a text was written of the frames that those lines close: the front closes none, also where it reads `end`
pub record ReadsSome (Is : List ℕ → List ℕ → Type 0) (old new : Option (List ℕ)) (taken_before taken : Option (List ℕ))
    : Type 0 where
  pub lines : List (List ℕ)
  pub front : List ℕ
  pub each : AllByRecursion HasNoLineFeed lines
  pub one_line : HasNoLineFeed front
  pub fits : length front ≤ LONGEST
  pub going : is_over (after start lines).stage ≡ false
  pub consumed : Consumes old new (unlines lines ++ front)
  pub frames : Writes taken_before taken (Is (unlines lines))

-- the lines of a recording were taken from the source up to its line `end`
abbrev pub ReadsToEnd : {S : Type 0} → (old new : S) → (last : ℕ) → (same_end at_end : Type 0)
    → (left_before left : Option (List ℕ)) → Type 0
ReadsToEnd old new last same_end at_end left_before left =
    consumed.ReadsToEnd start old new last same_end at_end left_before left

-- lines were taken from the source, and then what is refused
abbrev pub ReadsToRefusal : {S : Type 0} → (old new : S) → (last : ℕ) → (same_end at_end : Type 0)
    → (left_before left : Option (List ℕ)) → Type 0
ReadsToRefusal old new last same_end at_end left_before left =
    consumed.ReadsToRefusal start old new last same_end at_end left_before left

-- a sink with so much room can take the whole output of a recording, whichever right journals it has
abbrev pub HasRoom : ℕ → List ℕ → ℕ → Type 0
HasRoom workers bytes room =
    (journals : List (List Entry)) → AreRightIn (map_of bytes) (frames_of bytes) journals
    → (workers ≡ 1 → AreInOrderIn (map_of bytes) (frames_of bytes) journals) → length (out_text bytes journals) ≤ room

-- one with so much room can, where the packets are fed, in whichever order they arrive
abbrev pub HasFedRoom : ℕ → List ℕ → ℕ → Type 0
HasFedRoom workers bytes room =
    (feeds : List (List Arrival)) (journals : List (List Entry)) → AreFeedsOf (frames_of bytes) feeds
    → AreRightIn (map_of bytes) feeds journals → (workers ≡ 1 → AreInOrderIn (map_of bytes) feeds journals)
    → length (fed_output bytes feeds journals) ≤ room
