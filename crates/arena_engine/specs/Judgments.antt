-- A recording and what follows it were judged, and what was found was reported: what `check` and `audit` share.
use Rattle.std.specs.Prelude.{◌≡◌, ◌≤◌, ◌⊎◌, ℕ, true, List, [], Option, Some, None, Result, Ok, Err, IfSome, IsSome, IsSomeAnd}
use Rattle.std.specs.Io.KnownBytes.{Appends}
use Rattle.edge_io.specs.declared.source.Source as sources
use Rattle.edge_io.specs.declared.sink.Sink as sinks
use Rattle.edge_io.specs.Writes.{AppendsPart}
use Rattle.demo_lines.specs.declared.demo_stop.DemoStop.{DemoStop}
use Rattle.demo_lines.specs.Bytes.{fault_within}
use Rattle.demo_lines.specs.Consumed.{ReadsToRefusal}
use Rattle.demo_lines.specs.Known.{start_within}
use Rattle.transcript_check.specs.declared.verdict.Verdict.{Verdict}
use Rattle.transcript_check.specs.declared.verdict.Verdict.TheVariants.{Right, Wrong}
use Rattle.arena_engine.specs.declared.report.Report.{Report}
use Rattle.arena_engine.specs.declared.summary.TheConstants.{MOST_SUMMARY_BYTES}
use Rattle.arena_engine.specs.Endings.{IsOrMemory, Counts}
use Rattle.arena_engine.specs.Making.{IsBare}
use Rattle.arena_engine.specs.Reports.{refusal_of, status_of, place_of}
use Rattle.arena_engine.specs.Serving.{NothingFailed}
use Rattle.arena_engine.specs.StopOf.{stop_of}
use Rattle.arena_engine.specs.Summaries.{right_text}

-- ---- what is reported of what was found

module _ {K : Type 0} (k : sinks.Ghosts K) (old new : K) (r : Report) where
  -- it is right, with so many frames and moves, and the line that says so was written, or a part of it
  pub record ReportsRight (frames moves : ℕ) : Type 0 where
    pub status : (r.status ≡ 0) ⊎ (r.status ≡ 4)
    pub done : r.status ≡ 0 → Appends (k.taken old) (k.taken new) (right_text frames moves)
    pub cut : r.status ≡ 4 → AppendsPart (k.taken old) (k.taken new) (right_text frames moves)
    pub counts : Counts 4 (k.faults old) (k.faults new) r.status
    pub sure : MOST_SUMMARY_BYTES ≤ k.room old → r.status ≡ 4 → ⊥
    pub bare : IsBare r
    pub all : r.all ≡ []

  -- it is wrong from this line on, and nothing was written
  pub record ReportsWrong (line : ℕ) : Type 0 where
    pub status : r.status ≡ 6
    pub line_is : r.line ≡ line
    pub place : (r.fault ≡ 0) × (r.rule ≡ 0)
    pub last : r.last ≡ None
    pub all : r.all ≡ []
    pub same : new ≡ old

  -- the recording wasn't read to its end, and nothing was written
  pub record ReportsStop (stop : DemoStop) : Type 0 where
    pub status : r.status ≡ status_of (Err (stop_of stop))
    pub place : refusal_of r ≡ place_of (Err (stop_of stop))
    pub last : r.last ≡ None
    pub all : r.all ≡ []
    pub same : new ≡ old

  -- what was found was reported
  abbrev pub ReportsFound : Result Verdict DemoStop → Type 0
  ReportsFound (Ok (Right frames moves)) = ReportsRight frames moves
  ReportsFound (Ok (Wrong line)) = ReportsWrong line
  ReportsFound (Err stop) = ReportsStop stop

-- ---- the command

-- the bytes are judged to be right, with so many frames and moves, and P of the line that says so
pub record FindsRight (Judged : Verdict → List ℕ → Type 0) (left : Option (List ℕ)) (P : List ℕ → Type 0) : Type 0 where
  pub frames : ℕ
  pub moves : ℕ
  pub judged : IfSome left (Judged (Right frames moves))
  pub line : P (right_text frames moves)

-- what follows a recording from this source, which may have so many frames, was judged by this meaning of verdicts, and
-- what was found was written to this sink; ReadsRight says what was read of what is right, and ReadsWrong of what is wrong
pub record IsJudgedBy {S K : Type 0} (s : sources.Ghosts S) (k : sinks.Ghosts K) (limit : ℕ) (Judged : Verdict → List ℕ → Type 0)
    (ReadsRight ReadsWrong : Type 0) (source source' : S) (sink sink' : K) (r : Report) : Type 0 where
  -- its status isn't the one that only `bots` gives
  pub known : r.status ≤ 6
  -- what follows is right, and the line that says so was written
  pub done : r.status ≡ 0 → FindsRight Judged (s.left source) (Appends (k.taken sink) (k.taken sink'))
  -- the recording and what is right were read, and no more than the last read had to give
  pub read : (r.status ≡ 0) ⊎ (r.status ≡ 4) → ReadsRight
  -- it is wrong, and the report has the first line of the first wrong piece
  pub wrong : r.status ≡ 6 → IfSome (s.left source) (Judged (Wrong r.line))
  -- the recording was read, and as many lines as what is right may begin with, and then one line at most: no more than
  -- the last read had to give
  pub wrong_read : r.status ≡ 6 → ReadsWrong
  -- the recording has a fault, and the report has that line and its fault
  pub refused : r.status ≡ 1 → IfSome (s.left source) (λ bytes. fault_within limit bytes ≡ Some (refusal_of r))
  -- it was read to the faulty line, and no more than the last read had to give
  pub refused_read : r.status ≡ 1 → ReadsToRefusal (start_within limit) source source' (s.last source')
      (s.ended source' ≡ s.ended source) (s.ended source' ≡ true) (s.left source) (s.left source')
  -- what follows is right, and a proper part of the line was written
  pub cut : r.status ≡ 4 → FindsRight Judged (s.left source) (AppendsPart (k.taken sink) (k.taken sink'))
  -- nothing was written
  pub nothing : (r.status ≡ 1) ⊎ (r.status ≡ 3) ⊎ (r.status ≡ 5) ⊎ (r.status ≡ 6) → sink' ≡ sink
  -- no frame is run on workers: no journal is reported
  pub no_frame : r.last ≡ None
  pub no_journals : r.all ≡ []
  -- no write fails where there is room for the longest line
  pub sure_writes : MOST_SUMMARY_BYTES ≤ k.room sink → r.status ≡ 4 → ⊥
  -- where nothing failed, what follows a recording without a fault was judged, unless memory was refused
  pub complete : IsSomeAnd (s.left source) (λ bytes. fault_within limit bytes ≡ None)
      → NothingFailed (s.faults source) (s.faults source') (k.faults sink) (k.faults sink')
      → IsOrMemory r.status 0 ⊎ (r.status ≡ 6)
  -- where nothing failed, a recording with a fault was refused, unless memory was
  pub complete_refusal : IsSomeAnd (s.left source) (λ bytes. IsSome (fault_within limit bytes))
      → NothingFailed (s.faults source) (s.faults source') (k.faults sink) (k.faults sink') → IsOrMemory r.status 1
