-- What holds of all transcripts.
use Rattle.std.specs.Prelude.{◌≡◌, ℕ, ◌≤◌, nat_eq, List, Some, None, codes, count_by}
use Rattle.std.specs.List.{starts_with}
use Rattle.edge_io.specs.WholeLines.{whole_lines}
use Rattle.arena_map.specs.declared.limits.TheConstants.{MOST_FRAMES}
use Rattle.arena_map.specs.Maps.{MapView}
use Rattle.packet_read.specs.declared.arrival.Arrival.{Arrival}
use Rattle.demo_lines.specs.Bytes.{fault, map_of}
use Rattle.out_text.specs.Collecting.{frames_of}
use Rattle.out_text.specs.Output.{IsOutput}
use Rattle.out_text.specs.Transcripts.{BeginsWith, IsTranscript}
use Rattle.transcript_check.specs.declared.verdict.Verdict.{Verdict}
use Rattle.transcript_check.specs.declared.verdict.Verdict.TheVariants.{Right, Wrong}
use Rattle.transcript_check.specs.Verdicts.{IsRight, IsWrongAt, HasEndAt, IsJudged}

-- the bytes begin with an output of a recording
pub record BeginsWithOutput (workers : ℕ) (recording bytes : List ℕ) : Type 0 where
  pub text : List ℕ
  pub output : IsOutput workers recording text
  pub begins : BeginsWith bytes text

-- how many lines of a text begin with this word
abbrev pub lines_beginning : List ℕ → List ℕ → ℕ
lines_beginning word text = count_by (λ line. starts_with nat_eq line word) (whole_lines text)

-- the bytes begin with an output of a recording, which has so many `frame` lines and so many `did` lines
pub record BeginsWithLines (workers frames moves : ℕ) (recording bytes : List ℕ) : Type 0 where
  pub begins : BeginsWithOutput workers recording bytes
  pub frames_are : frames ≡ lines_beginning (codes "frame ") begins.text
  pub moves_are : moves ≡ lines_beginning (codes "did ") begins.text

-- no transcript is both right and wrong
abbrev pub VerdictsExclude : Type 0
VerdictsExclude =
    (map : MapView) (frames : List (List Arrival)) (rest : List ℕ) (count moves before line : ℕ)
    → IsRight map frames rest count moves → IsWrongAt map frames rest before line → ⊥

-- what begins with an output of a recording, whatever number of workers played it, is a right transcript of it
abbrev pub OutputsAreRight : Type 0
OutputsAreRight =
    (workers : ℕ) (recording : List ℕ) (map : MapView) (rest : List ℕ) → map_of recording ≡ Some map
    → BeginsWithOutput workers recording rest → IsTranscript map (frames_of recording) rest

-- and a right transcript of a recording without a fault begins with an output that more than one worker may write
abbrev pub RightOnesAreOutputs : Type 0
RightOnesAreOutputs =
    (workers : ℕ) (recording : List ℕ) (map : MapView) (rest : List ℕ) → (workers ≡ 1 → ⊥) → fault recording ≡ None
    → map_of recording ≡ Some map → IsTranscript map (frames_of recording) rest → BeginsWithOutput workers recording rest

-- what follows a recording that was judged right begins with an output of it, and what follows one that was judged wrong
-- begins with none; however few frames there may be where it was judged, it is an output of `play`
pub record VerdictsAreOnOutputs : Type 0 where
  pub right : (workers limit count moves : ℕ) (bytes : List ℕ) (is : IsJudged limit (Right count moves) bytes)
      → (workers ≡ 1 → ⊥) → limit ≤ MOST_FRAMES → BeginsWithOutput workers bytes is.rest
  pub wrong : (workers limit line : ℕ) (bytes : List ℕ) (is : IsJudged limit (Wrong line) bytes) → limit ≤ MOST_FRAMES
      → BeginsWithOutput workers bytes is.rest → ⊥

-- the end of a recording is one line, and what follows it is one rest
pub record IsOneEnd (line other : ℕ) (rest more : List ℕ) : Type 0 where
  pub line_is : line ≡ other
  pub rest_is : rest ≡ more

-- bytes are a recording with its end, and what follows it, in one way at most
abbrev pub RecordingsEndOnce : Type 0
RecordingsEndOnce =
    (limit : ℕ) (bytes : List ℕ) (line other : ℕ) (rest more : List ℕ) → HasEndAt limit bytes line rest
    → HasEndAt limit bytes other more → IsOneEnd line other rest more

-- two verdicts on one input are equal
abbrev pub VerdictsAreOne : Type 0
VerdictsAreOne =
    (limit : ℕ) (bytes : List ℕ) (one other : Verdict) → IsJudged limit one bytes → IsJudged limit other bytes → one ≡ other

-- the numbers of a transcript that was judged right are those of the `frame` lines and the `did` lines of the output that
-- it begins with
abbrev pub RightOnesCountTheirLines : Type 0
RightOnesCountTheirLines =
    (workers limit frames moves : ℕ) (bytes : List ℕ) (is : IsJudged limit (Right frames moves) bytes) → (workers ≡ 1 → ⊥)
    → limit ≤ MOST_FRAMES → BeginsWithLines workers frames moves bytes is.rest
