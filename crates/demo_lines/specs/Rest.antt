-- What follows a recording, line by line. A line feed is the byte 10.
use Rattle.std.specs.Prelude.{◌≡◌, ◌⊎◌, ℕ, ◌+◌, ◌≤◌, true, false, List, [], ◌∷◌, ◌++◌, length, Option, Some, None, IfSome}
use Rattle.std.specs.Io.KnownBytes.{Consumes, IsAtEnd}
use Rattle.edge_io.specs.declared.source.Source as sources
use Rattle.edge_io.specs.declared.line_reader.TheConstants.{LONGEST}
use Rattle.edge_io.specs.Counts.{HasRisen}
use Rattle.edge_io.specs.Lines.{HasNoLineFeed, HasNotReadAhead}
use Rattle.demo_lines.specs.declared.demo_stop.DemoStop.{DemoStop}
use Rattle.demo_lines.specs.declared.demo_stop.DemoStop.TheVariants.{ReadFault}
use Rattle.demo_lines.specs.declared.rest.TheConstants.{LONGEST_REST}
use Rattle.demo_lines.specs.Reads.{DemoReaderView}
use Rattle.demo_lines.specs.Outcomes.{ahead_of, IsNeeded}

-- no read has failed, and where the reader was told that no line follows, nothing is left ahead
pub record HasRest (demo : DemoReaderView) (ahead : Option (List ℕ)) : Type 0 where
  pub no_stop : demo.stop ≡ None
  pub at_end : demo.cut ≡ true → IsAtEnd ahead

-- a line and its line feed were taken off what was ahead, and the line isn't too long
pub record GivesRestLine (old new : Option (List ℕ)) (line : List ℕ) : Type 0 where
  pub consumed : Consumes old new (line ++ 10 ∷ [])
  pub one_line : HasNoLineFeed line
  pub fits : length line ≤ LONGEST_REST

-- the bytes begin with no such line
abbrev pub HasNoRestLine : List ℕ → Type 0
HasNoRestLine bytes =
    (line after : List ℕ) → HasNoLineFeed line → length line ≤ LONGEST_REST → bytes ≡ line ++ 10 ∷ after → ⊥

-- no line of those was there: a line with its line feed or the front of one was taken off what was ahead, where P holds,
-- or what the input ended with, without a line feed, where Q holds. Of a line that is too long no more was taken than one
-- byte more than the longest line of a recording has, beyond what the longest line here has
pub record TakesLineAtMost (old new : Option (List ℕ)) (P Q : Type 0) : Type 0 where
  pub line : List ℕ
  pub feed : List ℕ
  pub consumed : Consumes old new (line ++ feed)
  pub one_line : HasNoLineFeed line
  pub fits : length line ≤ LONGEST_REST + LONGEST + 1
  pub ends : (((feed ≡ []) ⊎ (feed ≡ 10 ∷ [])) × P) ⊎ ((feed ≡ []) × IsAtEnd new × Q)

-- Only a reader that isn't cut asks the source.
module _ {S : Type 0} (s : sources.Ghosts S) where
  -- a line was given
  pub record GivesNextLine (old new : DemoReaderView) (source source' : S) (given : List ℕ) : Type 0 where
    pub line : GivesRestLine (ahead_of s old source) (ahead_of s new source') given
    pub needed : HasNotReadAhead source source' (s.last source') old.pending new.pending
    pub before_end : (old.cut ≡ false) × (s.ended source' ≡ s.ended source)
    pub uncounted : s.faults source' ≡ s.faults source
    pub cut : new.cut ≡ false
    pub ok : new.stop ≡ None

  -- there is no line
  pub record GivesNoLine (old new : DemoReaderView) (source source' : S) : Type 0 where
    pub none : HasRest old (ahead_of s old source) → IfSome (ahead_of s old source) HasNoRestLine
    pub taken : TakesLineAtMost (ahead_of s old source) (ahead_of s new source') (IsNeeded s old new source source')
        (s.ended source' ≡ true)
    pub uncounted : s.faults source' ≡ s.faults source
    pub cut : new.cut ≡ true
    pub ok : new.stop ≡ None

  -- the reader stopped, since a read failed in this call or before, and keeps that
  pub record FailsToGiveLine (old new : DemoReaderView) (source source' : S) (stop : DemoStop) : Type 0 where
    pub read_fault : old.stop ≡ None → stop ≡ ReadFault
    pub fault : old.stop ≡ None → HasRisen (s.faults source) (s.faults source')
    pub sure : old.stop ≡ None → s.never_fails source → ⊥
    pub no_end : old.stop ≡ None → (old.cut ≡ false) × (s.ended source' ≡ s.ended source)
    pub later : s.faults source ≤ s.faults source'
    pub err : new.stop ≡ Some stop
