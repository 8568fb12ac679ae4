-- What the lines of a map and the log of a match after it were found to be.
use Rattle.std.specs.Prelude.{◌≡◌, ℕ, ◌+◌, ◌<◌, true, List, [], ◌∷◌, ◌++◌, length, Option, Some, None, IfSome}
use Rattle.std.specs.Io.KnownBytes.{Consumes}
use Rattle.edge_io.specs.declared.source.Source as sources
use Rattle.entity_recs.specs.declared.effect.Entry.{Entry}
use Rattle.arena_map.specs.declared.limits.TheConstants.{MOST_FRAMES}
use Rattle.arena_map.specs.Maps.{MapView, is_ready}
use Rattle.packet_read.specs.declared.arrival.Arrival.{Arrival}
use Rattle.plain_server.specs.RecordsById.{opening}
use Rattle.plain_server.specs.Frames.{AreRight}
use Rattle.demo_lines.specs.Bytes.{fault_within, map_within}
use Rattle.demo_lines.specs.Spelling.{IsRecording}
use Rattle.out_text.specs.OutLines.{OutLine, FrameLine, EndLine, line_spelling, text_of}
use Rattle.out_text.specs.Feeds.{fed_lines}
use Rattle.out_text.specs.Transcripts.{run_moves}
use Rattle.out_text.specs.MatchLogs.{IsLog, IsWrongLogAfter}
use Rattle.transcript_check.specs.declared.verdict.Verdict.{Verdict}
use Rattle.transcript_check.specs.declared.verdict.Verdict.TheVariants.{Right, Wrong}
use Rattle.transcript_check.specs.Checkers.{CheckerView}
use Rattle.transcript_check.specs.Reading.{TakesBeginning}
use Rattle.transcript_check.specs.Looked.{ReadsTranscript}
use Rattle.transcript_check.specs.Verdicts.{HasEndAt}

-- the log is right, and has so many frames, in which so many moves were received
pub record IsRightLog (map : MapView) (log : List ℕ) (count moves : ℕ) : Type 0 where
  pub is : IsLog map log
  pub count_is : count ≡ length is.feeds
  pub moves_are : moves ≡ run_moves map 0 (opening map) is.feeds is.journals

-- the log is wrong, and this is the number, in the whole input, of the first line of the first wrong piece, where so many
-- lines are before the log
pub record IsWrongLogAt (map : MapView) (log : List ℕ) (before line : ℕ) : Type 0 where
  pub lines : ℕ
  pub wrong : IsWrongLogAfter map log lines
  pub line_is : line ≡ before + lines + 1

-- this is the verdict on a log
abbrev pub IsLogVerdict : MapView → List ℕ → ℕ → Verdict → Type 0
IsLogVerdict map log before (Right count moves) = IsRightLog map log count moves
IsLogVerdict map log before (Wrong line) = IsWrongLogAt map log before line

-- the line opens the next frame after those of a checker, and one more may come
pub record OpensFrame (c : CheckerView) (line : List ℕ) : Type 0 where
  pub few : c.frames < MOST_FRAMES
  pub ready : is_ready c.map ≡ true
  pub is : line ≡ line_spelling (FrameLine c.frames)

-- the bytes are a recording without a fault that may have no frame, so the lines of a map and the line `end`, which is
-- that of this number, and then a log with this verdict. A line `frame` among those of the map is one more than there may
-- be, and so has fault 9, or an earlier one
pub record IsLogJudged (verdict : Verdict) (bytes : List ℕ) : Type 0 where
  pub accepted : fault_within 0 bytes ≡ None
  pub map : MapView
  pub map_is : map_within 0 bytes ≡ Some map
  pub log : List ℕ
  pub end_line : ℕ
  pub parts : HasEndAt 0 bytes end_line log
  pub is : IsLogVerdict map log end_line verdict

-- ---- what was looked at

-- these are the lines of a whole right log of the map
pub record AreOfLog (map : MapView) (these : List OutLine) : Type 0 where
  pub feeds : List (List Arrival)
  pub recorded : IsRecording map feeds
  pub journals : List (List Entry)
  pub right : AreRight map 0 (opening map) feeds journals
  pub lines_are : these ≡ fed_lines map 0 (opening map) feeds journals ++ EndLine (length feeds) ∷ []

-- the lines of a whole right log were taken off what was ahead, and nothing after its last line, where P holds
pub record TakesLog (map : MapView) (old new : Option (List ℕ)) (P : Type 0) : Type 0 where
  pub lines : List OutLine
  pub whole : AreOfLog map lines
  pub read : Consumes old new (text_of lines)
  pub needed : P

-- what was looked at for this verdict: of a right log its lines alone, and of a wrong one as many lines as a right one may
-- begin with, and the first line that none goes on with
abbrev pub LooksAtLog : Verdict → MapView → List (List Arrival) → Option (List ℕ) → Option (List ℕ) → Type 0 → Type 0 → Type 0
LooksAtLog (Right count moves) map frames old new P Q = TakesLog map old new P
LooksAtLog (Wrong line) map frames old new P Q = TakesBeginning (AreOfLog map) old new P Q

-- the log has this verdict: what was read is a recording that may have no frame, to its line `end`, and then as much of
-- the log as the verdict needs, and no more than the last read had to give
pub record JudgesLog {S : Type 0} (s : sources.Ghosts S) (source source' : S) (verdict : Verdict) : Type 0 where
  pub judged : IfSome (s.left source) (IsLogJudged verdict)
  pub read : ReadsTranscript s 0 source source' (LooksAtLog verdict)
  pub reads : s.faults source' ≡ s.faults source
