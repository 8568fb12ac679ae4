-- What a call of the reader takes off the bytes that are ahead, and what it gives.
use Rattle.std.specs.Prelude.{◌≡◌, ◌⊎◌, ℕ, ◌+◌, ◌≤◌, Bool, true, false, IsSome, List, [], ◌∷◌, ◌++◌, length, Option, Some}
use Rattle.std.specs.Prelude.{None, Result, ⊤}
use Rattle.std.specs.List.{AllByRecursion}
use Rattle.std.specs.Result.{result_ok}
use Rattle.std.specs.Io.KnownBytes.{Consumes, IsAtEnd}
use Rattle.edge_io.specs.declared.line_reader.TheConstants.{LONGEST}
use Rattle.edge_io.specs.Lines.{HasNoLineFeed}
use Rattle.edge_io.specs.WholeLines.{all_but_last, unlines}
use Rattle.arena_map.specs.declared.limits.TheConstants.{MOST_FRAMES}
use Rattle.demo_lines.specs.declared.event.Event.{Event}
use Rattle.demo_lines.specs.declared.event.Event.TheVariants.{Frame, From, End}
use Rattle.demo_lines.specs.declared.line.Line.{Line}
use Rattle.demo_lines.specs.declared.line_fault.LineFault.{LineFault}
use Rattle.demo_lines.specs.declared.line_fault.LineFault.TheVariants as faults
use Rattle.demo_lines.specs.declared.demo_stop.DemoStop.{DemoStop}
use Rattle.demo_lines.specs.declared.demo_stop.DemoStop.TheVariants.{Refused, ReadFault, NoMemory}
use Rattle.demo_lines.specs.declared.stage.Stage.{Stage}
use Rattle.demo_lines.specs.declared.stage.Stage.TheVariants as stages
use Rattle.demo_lines.specs.Known.{Reading, start_within, without_map, is_map_whole, is_over, is_refused}
use Rattle.demo_lines.specs.Lines.{is_end}
use Rattle.demo_lines.specs.Recording.{next, after, events_of, event_of}
use Rattle.demo_lines.specs.Said.{after_said}
use Rattle.demo_lines.specs.Readings.{IsReading}
use Rattle.demo_lines.specs.Bytes.{LineRefusal, refusal, events_in, fault_in}

-- a reader: what it has buffered, what is known of the recording so far, the stop that it keeps, and whether it was told
-- that no line follows the recording
pub record DemoReaderView : Type 0 where
  pub pending : List ℕ
  pub reading : Reading
  pub stop : Option DemoStop
  pub cut : Bool

-- the last of the lines is an end without a line feed, and nothing is left after it
pub record EndsWithoutFeed (lines : List (List ℕ)) (text : List ℕ) (later : Option (List ℕ)) : Type 0 where
  pub front : List (List ℕ)
  pub last : List ℕ
  pub lines_are : lines ≡ front ++ last ∷ []
  pub text_is : text ≡ unlines front ++ last
  pub is_the_end : is_end last ≡ true
  pub at_end : IsAtEnd later

-- the text is that of the lines, each with its line feed, or the last without, where it ends both recording and input
abbrev pub IsTextOf : List (List ℕ) → List ℕ → Option (List ℕ) → Type 0
IsTextOf lines text later = (text ≡ unlines lines) ⊎ EndsWithoutFeed lines text later

-- lines were taken off what was ahead, and they gave these events; no line was taken once the recording was over
pub record Reads (old new : Reading) (before later : Option (List ℕ)) (given : List Event) : Type 0 where
  pub lines : List (List ℕ)
  pub text : List ℕ
  pub each : AllByRecursion HasNoLineFeed lines
  pub spelled : IsTextOf lines text later
  pub consumed : Consumes before later text
  pub reached : new ≡ after old lines
  pub events : events_of old lines ≡ given
  pub going : is_over (after old (all_but_last lines)).stage ≡ false

-- an end without a line feed was taken last, and nothing is left after it
pub record TakesCutEnd (before later : Option (List ℕ)) : Type 0 where
  pub lines : List (List ℕ)
  pub text : List ℕ
  pub each : AllByRecursion HasNoLineFeed lines
  pub cut : EndsWithoutFeed lines text later
  pub consumed : Consumes before later text

-- whole lines and the front of one more were taken, which the recording still goes on to
pub record ReadsFront (old : Reading) (before later : Option (List ℕ)) (given : List Event) : Type 0 where
  pub lines : List (List ℕ)
  pub front : List ℕ
  pub each : AllByRecursion HasNoLineFeed lines
  pub one_line : HasNoLineFeed front
  pub fits : length front ≤ LONGEST
  pub consumed : Consumes before later (unlines lines ++ front)
  pub events : events_of old lines ≡ given
  pub going : is_over (after old lines).stage ≡ false

-- one or more whole lines were taken that gave no event, the last of which is a line of the map that would be taken
-- into it
pub record ReadsQuietly (old : Reading) (before later : Option (List ℕ)) : Type 0 where
  pub lines : List (List ℕ)
  pub some : 1 ≤ length lines
  pub each : AllByRecursion HasNoLineFeed lines
  pub consumed : Consumes before later (unlines lines)
  pub events : events_of old lines ≡ []
  pub of_map : (after old lines).stage ≡ stages.Map

-- a line that says this would be taken into the map: it gives no event, and the recording goes on after it
pub record IsQuiet (r : Reading) (said : Result Line LineFault) : Type 0 where
  pub event : event_of (result_ok said) ≡ []
  pub stage : (after_said r said).stage ≡ stages.Map

-- the line is refused, and counted
pub record IsRefusedAt (old new : Reading) (line : List ℕ) (why : LineRefusal) : Type 0 where
  pub is_next : new ≡ next old line
  pub fault : LineFault
  pub stage : new.stage ≡ stages.Refused fault
  pub counted : why ≡ refusal new.lines fault

-- what the input ended with is refused: an end as a line, and anything else since the input ended
abbrev pub IsRefusedLast : Reading → Reading → List ℕ → LineRefusal → Type 0
IsRefusedLast old new line why =
    ((is_end line ≡ true) × IsRefusedAt old new line why)
    ⊎ ((is_end line ≡ false) × (why ≡ refusal (old.lines + 1) faults.NoEnd))

-- an event keeps a map that was whole, and else completes one
pub record KeepsMap (old new : Reading) : Type 0 where
  pub kept : is_map_whole old.stage ≡ true → new.map ≡ old.map
  pub completed : is_map_whole old.stage ≡ false → IsSome new.map

-- what was taken last is a line with its line feed, and it is refused
pub record IsRefusedLine (r : Reading) (taken : List ℕ) : Type 0 where
  pub line : List ℕ
  pub one_line : HasNoLineFeed line
  pub whole : taken ≡ line ++ 10 ∷ []
  pub refused : is_refused (next r line).stage ≡ true

-- what was taken last is the front of a line that is too long, one byte more than the longest line has
pub record IsLongFront (taken : List ℕ) : Type 0 where
  pub one_line : HasNoLineFeed taken
  pub long : length taken ≡ LONGEST + 1

-- what was taken last is what the input ended with, without a line feed
pub record IsLastPart (taken : List ℕ) (later : Option (List ℕ)) : Type 0 where
  pub one_line : HasNoLineFeed taken
  pub fits : length taken ≤ LONGEST
  pub at_end : IsAtEnd later

-- lines were taken that gave no event and that the recording goes on after, and then what is refused: a line or the
-- front of one, where P holds, or what the input ended with, where Q holds
-- What holds of the source in each case is handed in as two facts, since the reader's state doesn't show which case it
-- was.
pub record Refuses (old : Reading) (before later : Option (List ℕ)) (number : ℕ) (P Q : Type 0) : Type 0 where
  pub lines : List (List ℕ)
  pub last : List ℕ
  pub each : AllByRecursion HasNoLineFeed lines
  pub consumed : Consumes before later (unlines lines ++ last)
  pub events : events_of old lines ≡ []
  pub going : is_over (after old lines).stage ≡ false
  pub counted : number ≡ (after old lines).lines + 1
  pub refused : ((IsRefusedLine (after old lines) last ⊎ IsLongFront last) × P) ⊎ (IsLastPart last later × Q)

-- what is ahead gives no more events, and this line of it is the first faulty one, for this fault
pub record EndsAt (r : Reading) (why : LineRefusal) (bytes : List ℕ) : Type 0 where
  pub events : events_in r bytes ≡ []
  pub fault : fault_in r bytes ≡ Some why

-- what holds of each reader: it keeps a stop where a line was refused
pub record IsDemoReader (reading : Reading) (stop : Option DemoStop) : Type 0 where
  pub holds : IsReading reading
  pub stopped : is_refused reading.stage ≡ true → IsSome stop

-- a reader that has read nothing, of a recording that may have so many frames
abbrev pub fresh_within : ℕ → DemoReaderView
fresh_within limit = record { pending = []; reading = start_within limit; stop = None; cut = false }

-- a reader that has read nothing
abbrev pub fresh_reader : DemoReaderView
fresh_reader = fresh_within MOST_FRAMES

-- the reader, after its map was given out
abbrev pub map_taken : DemoReaderView → DemoReaderView
map_taken demo =
    record { pending = demo.pending; reading = without_map demo.reading; stop = demo.stop; cut = demo.cut }

-- the reader goes on
pub record IsOpen (demo : DemoReaderView) : Type 0 where
  pub no_stop : demo.stop ≡ None
  pub not_over : is_over demo.reading.stage ≡ false

-- the stop of a refusal
abbrev pub stop_at : LineRefusal → DemoStop
stop_at why = Refused why.line why.fault why.rule

-- P of the line and its fault, where the recording was refused
abbrev pub OnRefused : DemoStop → (LineRefusal → Type 0) → Type 0
OnRefused (Refused line fault rule) P = P (record { line = line; fault = fault; rule = rule })
OnRefused ReadFault P = ⊤
OnRefused NoMemory P = ⊤

-- P, where the source failed
abbrev pub OnReadFault : DemoStop → Type 0 → Type 0
OnReadFault (Refused line fault rule) P = ⊤
OnReadFault ReadFault P = P
OnReadFault NoMemory P = ⊤

-- P, where memory was refused
abbrev pub OnNoMemory : DemoStop → Type 0 → Type 0
OnNoMemory (Refused line fault rule) P = ⊤
OnNoMemory ReadFault P = ⊤
OnNoMemory NoMemory P = P

-- how far a recording has come after an event
abbrev pub stage_after : Event → Stage
stage_after Frame = stages.Playing
stage_after (From a) = stages.Playing
stage_after End = stages.Ended
