-- What the commands that need no source answer and write.
use Rattle.std.specs.Prelude.{◌≡◌, ℕ, ◌≤◌, ◌⊎◌, List, [], length, None, Result, Ok, Err, IfOk, OnOk}
use Rattle.std.specs.Io.KnownBytes.{Appends}
use Rattle.edge_io.specs.declared.sink.Sink as sinks
use Rattle.edge_io.specs.Counts.{HasRisen}
use Rattle.edge_io.specs.Writes.{AppendsPart}
use Rattle.demo_make.specs.declared.make_stop.MakeStop.{MakeStop}
use Rattle.demo_make.specs.declared.make_stop.MakeStop.TheVariants.{WriteFault, NoMemory}
use Rattle.demo_make.specs.GeneratedFrames.{generated_text}
use Rattle.demo_make.specs.ResentFrames.{resent_text}
use Rattle.move_journal.specs.Logs.{JournalView}
use Rattle.match_play.specs.declared.totals.Totals.{Totals}
use Rattle.match_play.specs.Games.{GameView}
use Rattle.match_play.specs.Matches.{AreRightSoFar, AreInOrderSoFar, HasEachJournal, match_totals, entries_of}
use Rattle.arena_engine.specs.declared.report.Report.{Report}
use Rattle.arena_engine.specs.declared.summary.TheConstants.{MOST_SUMMARY_BYTES}
use Rattle.arena_engine.specs.Endings.{IsOrMemory}
use Rattle.arena_engine.specs.Summaries.{summary_text}

-- the status is done, a write fault or lack of memory
abbrev pub IsOfWriting : ℕ → Type 0
IsOfWriting status = (status ≡ 0) ⊎ (status ≡ 5) ⊎ (status ≡ 4)

-- the report names no line of a recording, and no last frame of one
pub record IsBare (r : Report) : Type 0 where
  pub line : r.line ≡ 0
  pub fault : r.fault ≡ 0
  pub rule : r.rule ≡ 0
  pub last : r.last ≡ None

-- whatever the status, each frame that was run has its journal, which is right and with one worker has the moves in the
-- order of arrival; all frames were run, unless memory was refused
pub record ArePlayed (seed players frames workers status : ℕ) (all : List JournalView) : Type 0 where
  pub right : AreRightSoFar seed players (entries_of all)
  pub order : workers ≡ 1 → AreInOrderSoFar seed players (entries_of all)
  pub few : length all ≤ frames
  pub whole : (status ≡ 5 → ⊥) → length all ≡ frames

-- the match of this seed was played into this game, and its frames came to these totals
pub record PlaysMatch {E : Type 0} (seed players frames workers : ℕ) (game : GameView) (ended : Result Totals E) : Type 0 where
  pub each : HasEachJournal seed players workers game
  pub few : length game.journals ≤ frames
  pub all : OnOk ended (length game.journals ≡ frames)
  pub totals : IfOk ended (λ totals. totals ≡ match_totals seed players (entries_of game.journals))

-- the line of the match whose frames have these journals
abbrev pub line_of_match : ℕ → ℕ → List JournalView → List ℕ
line_of_match seed players all = summary_text (match_totals seed players (entries_of all))

-- the status of a recording that was written, or wasn't
abbrev pub status_of : Result (Unit {0}) MakeStop → ℕ
status_of (Ok _) = 0
status_of (Err WriteFault) = 4
status_of (Err NoMemory) = 5

-- a recording with this text was written
pub record IsTextWritten {K : Type 0} (k : sinks.Ghosts K) (text : List ℕ) (old new : K) (r : Report) : Type 0 where
  -- the whole text was written
  pub done : r.status ≡ 0 → Appends (k.taken old) (k.taken new) text
  -- a proper front of it was
  pub cut : r.status ≡ 4 → AppendsPart (k.taken old) (k.taken new) text
  -- nothing was
  pub nothing : r.status ≡ 5 → new ≡ old
  -- no other status comes
  pub status : IsOfWriting r.status
  -- the report names nothing of a recording that was read
  pub bare : IsBare r
  -- journals of all frames are kept for `match` alone
  pub no_journals : r.all ≡ []
  -- no write fails where there is room
  pub sure : length text ≤ k.room old → r.status ≡ 4 → ⊥
  -- where no write failed it was written, unless memory was refused
  pub complete : (HasRisen (k.faults old) (k.faults new) → ⊥) → IsOrMemory r.status 0

-- the recording of this seed was made
abbrev pub IsMade : {K : Type 0} → sinks.Ghosts K → ℕ → ℕ → ℕ → K → K → Report → Type 0
IsMade k seed players frames old new r = IsTextWritten k (generated_text seed players frames) old new r

-- the recording of this seed was made in which commands are resent
abbrev pub IsResent : {K : Type 0} → sinks.Ghosts K → ℕ → ℕ → ℕ → K → K → Report → Type 0
IsResent k seed players frames old new r = IsTextWritten k (resent_text seed players frames) old new r

-- the match of this seed was played on these workers, and the line of its totals was written
pub record IsMatched {K : Type 0} (k : sinks.Ghosts K) (seed players frames workers : ℕ) (old new : K) (r : Report) : Type 0 where
  -- the line was written whole
  pub done : r.status ≡ 0 → Appends (k.taken old) (k.taken new) (line_of_match seed players r.all)
  -- a proper front of it was
  pub cut : r.status ≡ 4 → AppendsPart (k.taken old) (k.taken new) (line_of_match seed players r.all)
  -- nothing was
  pub nothing : r.status ≡ 5 → new ≡ old
  -- the report has the journal of each frame that was run
  pub frames_are : ArePlayed seed players frames workers r.status r.all
  -- no other status comes
  pub status : IsOfWriting r.status
  -- the report names nothing of a recording that was read
  pub bare : IsBare r
  -- no write fails where there is room for the longest line
  pub sure : MOST_SUMMARY_BYTES ≤ k.room old → r.status ≡ 4 → ⊥
  -- where no write failed it was played, unless memory was refused
  pub complete : (HasRisen (k.faults old) (k.faults new) → ⊥) → IsOrMemory r.status 0
