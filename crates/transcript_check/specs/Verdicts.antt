-- What a recording and the transcript after it were found to be.
use Rattle.std.specs.Prelude.{◌≡◌, ℕ, ◌+◌, ◌≤◌, true, false, List, ◌++◌, length, Some, None, IfSome}
use Rattle.std.specs.List.{AllByRecursion}
use Rattle.edge_io.specs.Lines.{HasNoLineFeed}
use Rattle.edge_io.specs.WholeLines.{all_but_last}
use Rattle.edge_io.specs.declared.source.Source as sources
use Rattle.edge_io.specs.Counts.{HasRisen}
use Rattle.arena_map.specs.Maps.{MapView}
use Rattle.packet_read.specs.declared.arrival.Arrival.{Arrival}
use Rattle.packet_read.specs.declared.arrival.TheConstants.{MOST_ARRIVALS}
use Rattle.plain_server.specs.RecordsById.{opening}
use Rattle.demo_lines.specs.declared.demo_stop.DemoStop.{DemoStop}
use Rattle.demo_lines.specs.declared.demo_stop.DemoStop.TheVariants.{Refused, ReadFault, NoMemory}
use Rattle.demo_lines.specs.declared.stage.Stage.TheVariants.{Ended}
use Rattle.demo_lines.specs.Known.{start_within, is_over}
use Rattle.demo_lines.specs.declared.line_refusal.LineRefusal.{LineRefusal}
use Rattle.demo_lines.specs.Bytes.{fault_within, map_within}
use Rattle.demo_lines.specs.Recording.{after}
use Rattle.demo_lines.specs.Reads.{IsTextOf}
use Rattle.demo_lines.specs.Consumed.{ReadsToRefusal}
use Rattle.out_text.specs.Collecting.{frames_within}
use Rattle.out_text.specs.Transcripts.{IsTranscript, IsWrongAfter, run_moves}
use Rattle.transcript_check.specs.declared.verdict.Verdict.{Verdict}
use Rattle.transcript_check.specs.declared.verdict.Verdict.TheVariants.{Right, Wrong}
use Rattle.transcript_check.specs.Looked.{LooksAt, ReadsTranscript}

-- the packets of a frame of a recording are few
abbrev pub IsShort : List Arrival → Type 0
IsShort arrivals = length arrivals ≤ MOST_ARRIVALS

-- the transcript of these frames is right, and so many moves were received in them
pub record IsRight (map : MapView) (frames : List (List Arrival)) (rest : List ℕ) (count moves : ℕ) : Type 0 where
  pub transcript : IsTranscript map frames rest
  pub count_is : count ≡ length frames
  pub moves_are : moves ≡ run_moves map 0 (opening map) frames transcript.journals

-- the transcript is wrong, and this is the number, in the whole input, of the first line of the first wrong piece, where
-- so many lines are before the transcript
pub record IsWrongAt (map : MapView) (frames : List (List Arrival)) (rest : List ℕ) (before line : ℕ) : Type 0 where
  pub lines : ℕ
  pub wrong : IsWrongAfter map frames rest lines
  pub line_is : line ≡ before + lines + 1

-- this is the verdict on a transcript
abbrev pub IsVerdict : MapView → List (List Arrival) → List ℕ → ℕ → Verdict → Type 0
IsVerdict map frames rest before (Right count moves) = IsRight map frames rest count moves
IsVerdict map frames rest before (Wrong line) = IsWrongAt map frames rest before line

-- the bytes are a recording that ends with its line of this number, counted from 1, and then these
pub record HasEndAt (limit : ℕ) (bytes : List ℕ) (line : ℕ) (rest : List ℕ) : Type 0 where
  pub lines : List (List ℕ)
  pub text : List ℕ
  pub each : AllByRecursion HasNoLineFeed lines
  pub spelled : IsTextOf lines text (Some rest)
  pub bytes_are : bytes ≡ text ++ rest
  pub ended : (after (start_within limit) lines).stage ≡ Ended
  pub going : is_over (after (start_within limit) (all_but_last lines)).stage ≡ false
  pub number : line ≡ length lines

-- the bytes are a recording without a fault, which may have so many frames, with this line as its end, and then a
-- transcript with this verdict
pub record IsJudged (limit : ℕ) (verdict : Verdict) (bytes : List ℕ) : Type 0 where
  pub accepted : fault_within limit bytes ≡ None
  pub map : MapView
  pub map_is : map_within limit bytes ≡ Some map
  pub rest : List ℕ
  pub end_line : ℕ
  pub parts : HasEndAt limit bytes end_line rest
  pub is : IsVerdict map (frames_within limit bytes) rest end_line verdict

-- ---- how a check ended

module _ {S : Type 0} (s : sources.Ghosts S) (limit : ℕ) (source source' : S) where
  -- the transcript has this verdict
  pub record Judges (verdict : Verdict) : Type 0 where
    pub judged : IfSome (s.left source) (IsJudged limit verdict)
    pub read : ReadsTranscript s limit source source' (LooksAt verdict)
    pub reads : s.faults source' ≡ s.faults source

  -- a line of the recording was refused
  pub record RefusesRecording (why : LineRefusal) : Type 0 where
    pub faulty : IfSome (s.left source) (λ bytes. fault_within limit bytes ≡ Some why)
    pub read : ReadsToRefusal (start_within limit) source source' (s.last source') (s.ended source' ≡ s.ended source)
        (s.ended source' ≡ true) (s.left source) (s.left source')
    pub reads : s.faults source' ≡ s.faults source

  -- the source failed, before it told its end
  pub record FailsToRead : Type 0 where
    pub before_end : s.ended source' ≡ s.ended source
    pub fault : HasRisen (s.faults source) (s.faults source')
    pub later : s.faults source ≤ s.faults source'
    pub fails : s.never_fails source → ⊥

  -- memory was refused
  pub record LacksMemory : Type 0 where
    pub reads : s.faults source' ≡ s.faults source

  -- what holds where the check stopped so
  abbrev pub StopsChecking : DemoStop → Type 0
  StopsChecking (Refused line fault rule) = RefusesRecording (record { line = line; fault = fault; rule = rule })
  StopsChecking ReadFault = FailsToRead
  StopsChecking NoMemory = LacksMemory
