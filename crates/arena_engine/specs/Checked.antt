-- A recording and what follows it were read, and that was compared with the output of the recording; or the lines of a map
-- and the log of a match after it were.
use Rattle.std.specs.Prelude.{ℕ, List, Option}
use Rattle.edge_io.specs.declared.source.Source as sources
use Rattle.edge_io.specs.declared.sink.Sink as sinks
use Rattle.arena_map.specs.Maps.{MapView}
use Rattle.packet_read.specs.declared.arrival.Arrival.{Arrival}
use Rattle.transcript_check.specs.Audits.{IsLogJudged, TakesLog, AreOfLog}
use Rattle.transcript_check.specs.Looked.{TakesOutput, TakesFront, ReadsTranscript}
use Rattle.transcript_check.specs.Reading.{TakesBeginning}
use Rattle.transcript_check.specs.Verdicts.{IsJudged}
use Rattle.arena_engine.specs.declared.commands.check.TheConstants.{MOST_CHECKED_FRAMES}
use Rattle.arena_engine.specs.declared.report.Report.{Report}
use Rattle.arena_engine.specs.Judgments.{IsJudgedBy}

-- what follows a recording from this source was compared with its output, and what was found was written to this sink
abbrev pub IsChecked : {S K : Type 0} → sources.Ghosts S → sinks.Ghosts K → S → S → K → K → Report → Type 0
IsChecked s k source source' sink sink' r =
    IsJudgedBy s k MOST_CHECKED_FRAMES (IsJudged MOST_CHECKED_FRAMES)
    (ReadsTranscript s MOST_CHECKED_FRAMES source source' TakesOutput)
    (ReadsTranscript s MOST_CHECKED_FRAMES source source' TakesFront) source source' sink sink' r

-- the lines of a whole right log were taken, and nothing after its last line
abbrev pub TakesWholeLog : MapView → List (List Arrival) → Option (List ℕ) → Option (List ℕ) → Type 0 → Type 0 → Type 0
TakesWholeLog map frames old new P Q = TakesLog map old new P

-- as many lines as a right log may begin with were taken, and the first line that none goes on with
abbrev pub TakesLogFront : MapView → List (List Arrival) → Option (List ℕ) → Option (List ℕ) → Type 0 → Type 0 → Type 0
TakesLogFront map frames old new P Q = TakesBeginning (AreOfLog map) old new P Q

-- the log of a match after a map from this source was judged, and what was found was written to this sink
abbrev pub IsAudited : {S K : Type 0} → sources.Ghosts S → sinks.Ghosts K → S → S → K → K → Report → Type 0
IsAudited s k source source' sink sink' r =
    IsJudgedBy s k 0 IsLogJudged (ReadsTranscript s 0 source source' TakesWholeLog)
    (ReadsTranscript s 0 source source' TakesLogFront) source source' sink sink' r
