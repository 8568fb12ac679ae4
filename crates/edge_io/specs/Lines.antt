-- The lines of a source: what is ahead of a reader, and what each answer took off it. A line feed is the byte 10.
use Rattle.std.specs.Prelude.{◌≡◌, ◌⊎◌, ℕ, ◌+◌, ◌<◌, ◌≤◌, ◌==◌, false, List, [], ◌∷◌, ◌++◌, Option, All, length, ⊤}
use Rattle.std.specs.Io.KnownBytes.{Consumes, IsAtEnd, prepend_known}
use Rattle.edge_io.specs.declared.line_reader.TheConstants.{LONGEST}
use Rattle.edge_io.specs.declared.line_reader.NextLine.{NextLine}
use Rattle.edge_io.specs.declared.line_reader.NextLine.TheVariants.{Whole, Long, Ended}
use Rattle.edge_io.specs.declared.line_reader.Front.{Front}
use Rattle.edge_io.specs.declared.line_reader.Front.TheVariants.{Closed, Over, Open}
pub use Rattle.byte_lists.specs.Bytes.{AreBytes}

-- what is ahead of a reader: the bytes that it has buffered, and then those that its source has left
abbrev pub ahead : List ℕ → Option (List ℕ) → Option (List ℕ)
ahead pending left = prepend_known pending left

-- no byte is a line feed
abbrev pub HasNoLineFeed : List ℕ → Type 0
HasNoLineFeed bytes = All (λ b. (b == 10) ≡ false) bytes

-- a whole line and its line feed were taken off what was ahead
pub record GivesLine (old new : Option (List ℕ)) (line : List ℕ) : Type 0 where
  pub consumed : Consumes old new (line ++ 10 ∷ [])
  pub one_line : HasNoLineFeed line
  pub fits : length line ≤ LONGEST

-- the front of a line that is too long was taken: one byte more than the longest line has
pub record GivesLongFront (old new : Option (List ℕ)) (line : List ℕ) : Type 0 where
  pub consumed : Consumes old new line
  pub one_line : HasNoLineFeed line
  pub long : length line ≡ LONGEST + 1

-- the front of a line was taken, and nothing is buffered
pub record GivesFront (old new : Option (List ℕ)) (line pending : List ℕ) : Type 0 where
  pub consumed : Consumes old new line
  pub one_line : HasNoLineFeed line
  pub fits : length line ≤ LONGEST
  pub drained : pending ≡ []

-- what no line feed ends was taken, and nothing is ahead any more
pub record GivesLastPart (old new : Option (List ℕ)) (line pending : List ℕ) : Type 0 where
  pub front : GivesFront old new line pending
  pub at_end : IsAtEnd new

-- nothing was read ahead: the source is as it was and no more is buffered than before, or a byte of those that the
-- source's last read gave isn't buffered any more
abbrev pub HasNotReadAhead : {S : Type 0} → (old new : S) → (last : ℕ) → (before later : List ℕ) → Type 0
HasNotReadAhead old new last before later = ((new ≡ old) × (length later ≤ length before)) ⊎ (length later < last)

-- P, where a line or the front of one was given
abbrev pub OnLine : NextLine → Type 0 → Type 0
OnLine Whole P = P
OnLine Long P = P
OnLine Ended P = ⊤

-- P, where a whole line was given
abbrev pub OnWhole : NextLine → Type 0 → Type 0
OnWhole Whole P = P
OnWhole Long P = ⊤
OnWhole Ended P = ⊤

-- P, where the line is too long
abbrev pub OnLong : NextLine → Type 0 → Type 0
OnLong Whole P = ⊤
OnLong Long P = P
OnLong Ended P = ⊤

-- P, where the source has ended
abbrev pub OnEnded : NextLine → Type 0 → Type 0
OnEnded Whole P = ⊤
OnEnded Long P = ⊤
OnEnded Ended P = P

-- a line and the bytes buffered became a longer line and the rest: up to a line feed, up to one byte too many, or
-- without an end of the line so far
abbrev pub MovesFront : Front → (line pending longer rest : List ℕ) → Type 0
MovesFront Closed line pending longer rest =
    (line ++ pending ≡ (longer ++ 10 ∷ []) ++ rest) × (length longer ≤ LONGEST)
MovesFront Over line pending longer rest =
    (line ++ pending ≡ longer ++ rest) × (length longer ≡ LONGEST + 1)
MovesFront Open line pending longer rest =
    (line ++ pending ≡ longer ++ rest) × (length line < length longer) × (length longer ≤ LONGEST)
