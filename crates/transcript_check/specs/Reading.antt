-- What reading the lines of a transcript takes off what is ahead.
use Rattle.std.specs.Prelude.{◌≡◌, ℕ, zero, suc, ◌+◌, ◌-◌, ◌^◌, ◌≤◌, Bool, true, false, min, List, [], ◌∷◌, ◌++◌, length, Option, IfSome}
use Rattle.std.specs.Io.KnownBytes.{Consumes}
use Rattle.edge_io.specs.declared.source.Source as sources
use Rattle.edge_io.specs.Counts.{HasRisen}
use Rattle.edge_io.specs.Lines.{ahead, HasNoLineFeed, HasNotReadAhead}
use Rattle.demo_lines.specs.declared.demo_stop.DemoStop.{DemoStop}
use Rattle.demo_lines.specs.declared.demo_stop.DemoStop.TheVariants as demo_stop
use Rattle.demo_lines.specs.declared.rest.TheConstants.{LONGEST_REST}
use Rattle.demo_lines.specs.declared.stage.Stage.TheVariants.{Ended}
use Rattle.demo_lines.specs.Reads.{DemoReaderView}
use Rattle.demo_lines.specs.Rest.{HasRest, GivesRestLine, TakesLineAtMost}
use Rattle.out_text.specs.OutLines.{OutLine, text_of}

-- what follows a recording: its reader, the line that was read last, whether that is held to be taken once more, and how
-- many lines were taken
pub record InputView : Type 0 where
  pub demo : DemoReaderView
  pub given : List ℕ
  pub held : Bool
  pub count : ℕ

-- a line is whole, and not too long
pub record IsRestLine (line : List ℕ) : Type 0 where
  pub one_line : HasNoLineFeed line
  pub fits : length line ≤ LONGEST_REST

-- the line that is held, and its line feed, where one is
abbrev pub text_held : Bool → List ℕ → List ℕ
text_held true line = line ++ 10 ∷ []
text_held false line = []

-- a count of lines after so many more; it stops at 2^64 - 1
abbrev pub count_after : ℕ → ℕ → ℕ
count_after count zero = count
count_after count (suc more) = min (count + suc more) (2 ^ 64 - 1)

-- after the line that is held was taken
abbrev pub without_held : InputView → InputView
without_held input =
    record { demo = input.demo; given = input.given; held = false; count = count_after input.count 1 }

-- the first of some lines that are wanted were taken off what was ahead, and then one line at most
pub record TakesBeginning (Wanted : List OutLine → Type 0) (old new : Option (List ℕ)) (P Q : Type 0) : Type 0 where
  pub front : List OutLine
  pub more : List OutLine
  pub wanted : Wanted (front ++ more)
  pub left : Option (List ℕ)
  pub read : Consumes old left (text_of front)
  pub last : TakesLineAtMost left new P Q

module _ {S : Type 0} (s : sources.Ghosts S) where
  -- what is ahead: a line that is held comes first
  abbrev pub ahead_of : InputView → S → Option (List ℕ)
  ahead_of input source = ahead (text_held input.held input.given ++ input.demo.pending) (s.left source)

  -- more lines may be read: the recording has ended, and no read has failed
  pub record MayRead (input : InputView) (source : S) : Type 0 where
    pub over : input.demo.reading.stage ≡ Ended
    pub rest : HasRest input.demo (ahead_of input source)

  -- no more was read than the last read had to give, the source hasn't told its end, and no line is held
  pub record IsNeeded (old new : S) (input input' : InputView) : Type 0 where
    pub unread : HasNotReadAhead old new (s.last new) input.demo.pending input'.demo.pending
    pub before_end : s.ended new ≡ s.ended old
    pub free : input'.held ≡ false

  -- no read failed, no more was read than the last read had to give, the source hasn't told its end, and more lines may
  -- follow where they might before
  pub record GoesOn (old new : S) (input input' : InputView) : Type 0 where
    pub may : MayRead input' new
    pub same : input'.demo.reading ≡ input.demo.reading
    pub cut : input'.demo.cut ≡ input.demo.cut
    pub unread : HasNotReadAhead old new (s.last new) input.demo.pending input'.demo.pending
    pub before_end : s.ended new ≡ s.ended old
    pub uncounted : s.faults new ≡ s.faults old
    pub keeps : s.never_fails old → s.never_fails new

  -- nothing was taken, and a line is held
  pub record HoldsLine (old new : S) (input input' : InputView) : Type 0 where
    pub is : input'.held ≡ true
    pub same : Consumes (ahead_of input old) (ahead_of input' new) []
    pub line : IsRestLine input'.given
    pub on : GoesOn old new input input'
    pub count_is : input'.count ≡ input.count

  -- a line was read
  pub record ReadsLine (old new : S) (input input' : InputView) : Type 0 where
    pub gives : GivesRestLine (ahead_of input old) (ahead_of input' new) input'.given
    pub on : GoesOn old new input input'
    pub free : input'.held ≡ false
    pub count_is : input'.count ≡ count_after input.count 1

  -- these lines were read
  pub record ReadsLines (old new : S) (input input' : InputView) (lines : List OutLine) : Type 0 where
    pub consumed : Consumes (ahead_of input old) (ahead_of input' new) (text_of lines)
    pub on : GoesOn old new input input'
    pub count_is : input'.count ≡ count_after input.count (length lines)

  -- one line at most was read, or what the input ended with
  abbrev pub ReadsOneAtMost : (old new : S) → (input input' : InputView) → Type 0
  ReadsOneAtMost old new input input' =
      TakesLineAtMost (ahead_of input old) (ahead_of input' new) (IsNeeded old new input input') (s.ended new ≡ true)

  -- the first of some lines that are wanted were read, and then one line at most, or what the input ended with
  abbrev pub ReadsBeginning : (Wanted : List OutLine → Type 0) → (old new : S) → (input input' : InputView) → Type 0
  ReadsBeginning Wanted old new input input' =
      TakesBeginning Wanted (ahead_of input old) (ahead_of input' new) (IsNeeded old new input input') (s.ended new ≡ true)

  -- no read failed, and P of what was ahead
  pub record Misses (old new : S) (input : InputView) (P : List ℕ → Type 0) : Type 0 where
    pub missed : IfSome (ahead_of input old) P
    pub uncounted : s.faults new ≡ s.faults old

  -- a read failed, where the input hadn't ended with the recording, and the source hasn't told its end
  pub record ReadFails (old new : S) (input : InputView) (stop : DemoStop) : Type 0 where
    pub is : stop ≡ demo_stop.ReadFault
    pub not_cut : input.demo.cut ≡ false
    pub before_end : s.ended new ≡ s.ended old
    pub fault : HasRisen (s.faults old) (s.faults new)
    pub later : s.faults old ≤ s.faults new
    pub fails : s.never_fails old → ⊥
