-- What holds of all logs of matches.
use Rattle.std.specs.Prelude.{◌≡◌, ℕ, List, length, codes, Some}
use Rattle.arena_map.specs.Maps.{MapView}
use Rattle.packet_read.specs.declared.arrival.Arrival.{Arrival}
use Rattle.demo_lines.specs.Bytes.{map_of}
use Rattle.demo_lines.specs.Spelling.{recording_text}
use Rattle.out_text.specs.Collecting.{frames_of}
use Rattle.out_text.specs.Output.{IsOutput}
use Rattle.out_text.specs.Feeds.{froms, without_froms, IsFedOutput}
use Rattle.out_text.specs.FedLaws.{IsOfRecording}
use Rattle.out_text.specs.Transcripts.{BeginsWith}
use Rattle.transcript_check.specs.declared.verdict.Verdict.{Verdict}
use Rattle.transcript_check.specs.Audits.{IsRightLog, IsLogJudged}
use Rattle.transcript_check.specs.Laws.{lines_beginning}

-- the bytes begin with an output of `feed` for the recording of the map with these packets, which arrived in this order;
-- without its `from` lines it is an output of `play` for that recording
pub record BeginsWithFed (workers : ℕ) (map : MapView) (feeds : List (List Arrival)) (bytes : List ℕ) : Type 0 where
  pub text : List ℕ
  pub fed : IsOfRecording map feeds (IsFedOutput workers) text
  pub order : froms text ≡ feeds
  pub played : IsOutput workers (recording_text map feeds) (without_froms text)
  pub begins : BeginsWith bytes text

-- they begin with such an output, which has so many `frame` lines and so many `did` lines
pub record BeginsWithFedLines (workers : ℕ) (map : MapView) (feeds : List (List Arrival)) (frames moves : ℕ)
    (bytes : List ℕ) : Type 0 where
  pub begins : BeginsWithFed workers map feeds bytes
  pub frames_are : frames ≡ lines_beginning (codes "frame ") begins.text
  pub moves_are : moves ≡ lines_beginning (codes "did ") begins.text

-- a right log begins with an output of `feed`, one that more than one worker may write, for the recording of its map with
-- its packets, in their order
abbrev pub RightLogsAreOutputs : Type 0
RightLogsAreOutputs =
    (workers : ℕ) (map : MapView) (log : List ℕ) (count moves : ℕ) (right : IsRightLog map log count moves)
    → (workers ≡ 1 → ⊥) → BeginsWithFed workers map right.is.feeds log

-- what begins with an output of `feed` for a recording, whatever number of workers wrote it, is a right log of its map;
-- its frames are as many as the recording has, and its moves as many as the output has `did` lines
abbrev pub OutputsAreRightLogs : Type 0
OutputsAreRightLogs =
    (workers : ℕ) (recording : List ℕ) (map : MapView) (text log : List ℕ) → map_of recording ≡ Some map
    → IsFedOutput workers recording text → BeginsWith log text
    → IsRightLog map log (length (frames_of recording)) (lines_beginning (codes "did ") text)

-- two verdicts on one map and the log after it are equal, so none is both right and wrong
abbrev pub LogVerdictsAreOne : Type 0
LogVerdictsAreOne = (bytes : List ℕ) (one other : Verdict) → IsLogJudged one bytes → IsLogJudged other bytes → one ≡ other

-- the numbers of a right log are those of the `frame` lines and the `did` lines of the output that it begins with
abbrev pub RightLogsCountTheirLines : Type 0
RightLogsCountTheirLines =
    (workers : ℕ) (map : MapView) (log : List ℕ) (count moves : ℕ) (right : IsRightLog map log count moves)
    → (workers ≡ 1 → ⊥) → BeginsWithFedLines workers map right.is.feeds count moves log
