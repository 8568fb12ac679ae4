-- A text that explains the program was written.
use Rattle.std.specs.Prelude.{◌≡◌, ◌≤◌, ℕ, List, [], length}
use Rattle.std.specs.Io.KnownBytes.{Appends}
use Rattle.edge_io.specs.declared.sink.Sink as sinks
use Rattle.edge_io.specs.Counts.{HasRisen}
use Rattle.edge_io.specs.Writes.{AppendsPart}
use Rattle.arena_engine.specs.declared.report.Report.{Report}
use Rattle.arena_engine.specs.Endings.{IsOrMemory}
use Rattle.arena_engine.specs.Making.{IsBare, IsOfWriting}

-- this text was written, unless there was no memory for the words that ask for it
pub record IsExplained {K : Type 0} (k : sinks.Ghosts K) (text : List ℕ) (old new : K) (r : Report) : Type 0 where
  -- the whole text was written, and nothing else
  pub done : r.status ≡ 0 → Appends (k.taken old) (k.taken new) text
  -- a proper front of it was
  pub cut : r.status ≡ 4 → AppendsPart (k.taken old) (k.taken new) text
  -- nothing was
  pub nothing : r.status ≡ 5 → new ≡ old
  -- no other status comes
  pub status : IsOfWriting r.status
  -- the report names nothing of a recording
  pub bare : IsBare r
  pub no_journals : r.all ≡ []
  -- no write fails where there is room
  pub sure : length text ≤ k.room old → r.status ≡ 4 → ⊥
  -- where no write failed it was written, unless memory was refused
  pub complete : (HasRisen (k.faults old) (k.faults new) → ⊥) → IsOrMemory r.status 0
