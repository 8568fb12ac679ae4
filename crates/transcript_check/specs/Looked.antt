-- What was looked at of the transcript after a recording.
use Rattle.std.specs.Prelude.{◌≡◌, ℕ, true, List, [], ◌∷◌, ◌++◌, length, Option, Some}
use Rattle.std.specs.Io.KnownBytes.{Consumes}
use Rattle.edge_io.specs.declared.source.Source as sources
use Rattle.edge_io.specs.Lines.{ahead, HasNotReadAhead}
use Rattle.entity_recs.specs.declared.effect.Entry.{Entry}
use Rattle.arena_map.specs.Maps.{MapView}
use Rattle.packet_read.specs.declared.arrival.Arrival.{Arrival}
use Rattle.plain_server.specs.RecordsById.{opening}
use Rattle.plain_server.specs.Frames.{AreRight}
use Rattle.demo_lines.specs.Known.{start_within}
use Rattle.demo_lines.specs.Recording.{after, events_of}
use Rattle.demo_lines.specs.Consumed.{ReadsToEnd}
use Rattle.out_text.specs.Collecting.{frames_of_events}
use Rattle.out_text.specs.OutLines.{OutLine, EndLine, text_of}
use Rattle.out_text.specs.FrameLines.{run_lines}
use Rattle.transcript_check.specs.declared.verdict.Verdict.{Verdict}
use Rattle.transcript_check.specs.declared.verdict.Verdict.TheVariants.{Right, Wrong}
use Rattle.transcript_check.specs.Reading.{TakesBeginning}

-- these are the lines of a whole output of the frames, with right journals
pub record AreOfOutput (map : MapView) (frames : List (List Arrival)) (these : List OutLine) : Type 0 where
  pub journals : List (List Entry)
  pub right : AreRight map 0 (opening map) frames journals
  pub lines_are : these ≡ run_lines map 0 (opening map) frames journals ++ EndLine (length frames) ∷ []

-- the lines of a whole output were taken off what was ahead, and nothing after its last line, where P holds
pub record TakesOutput (map : MapView) (frames : List (List Arrival)) (old new : Option (List ℕ)) (P Q : Type 0) : Type 0 where
  pub lines : List OutLine
  pub whole : AreOfOutput map frames lines
  pub read : Consumes old new (text_of lines)
  pub needed : P

-- the first lines of an output were taken off it, and then one line at most, where P holds, or what the input ended with,
-- where Q holds
abbrev pub TakesFront : MapView → List (List Arrival) → Option (List ℕ) → Option (List ℕ) → Type 0 → Type 0 → Type 0
TakesFront map frames old new P Q = TakesBeginning (AreOfOutput map frames) old new P Q

-- what was looked at for this verdict: of a right transcript the output alone, and of a wrong one as many lines as a right
-- one may begin with, and the first line that none goes on with
abbrev pub LooksAt : Verdict → MapView → List (List Arrival) → Option (List ℕ) → Option (List ℕ) → Type 0 → Type 0 → Type 0
LooksAt (Right count moves) map frames old new P Q = TakesOutput map frames old new P Q
LooksAt (Wrong line) map frames old new P Q = TakesFront map frames old new P Q

-- a recording that may have so many frames was read to its line `end`, and then as much of what follows it as Looks says:
-- no more was read than the last read had to give, and the input's end was given in this call only where what was looked
-- at ends with it. between is the source after the recording
pub record ReadsTranscript {S : Type 0} (s : sources.Ghosts S) (limit : ℕ) (source source' : S)
    (Looks : MapView → List (List Arrival) → Option (List ℕ) → Option (List ℕ) → Type 0 → Type 0 → Type 0) : Type 0 where
  pub between : S
  pub recording : ReadsToEnd (start_within limit) source between (s.last between) (s.ended between ≡ s.ended source)
      (s.ended between ≡ true) (s.left source) (s.left between)
  pub map : MapView
  pub map_is : (after (start_within limit) recording.lines).map ≡ Some map
  pub buffered : List ℕ
  pub looks : Looks map (frames_of_events (events_of (start_within limit) recording.lines)).closed
      (ahead recording.buffered (s.left between)) (ahead buffered (s.left source'))
      (HasNotReadAhead between source' (s.last source') recording.buffered buffered × (s.ended source' ≡ s.ended between))
      (s.ended source' ≡ true)
