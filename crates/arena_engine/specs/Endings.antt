-- How a call ended, whatever it was asked for.
use Rattle.std.specs.Prelude.{◌≡◌, ℕ, ◌≤◌, ◌⊎◌, [], None}
use Rattle.edge_io.specs.declared.source.Source as sources
use Rattle.edge_io.specs.declared.sink.Sink as sinks
use Rattle.edge_io.specs.Counts.{HasRisen}
use Rattle.arena_engine.specs.declared.report.Report.{Report}

-- the status is this one, or that of lack of memory
abbrev pub IsOrMemory : ℕ → ℕ → Type 0
IsOrMemory status wanted = (status ≡ 5) ⊎ (status ≡ wanted)

-- how a count of faults went in a call that ended with this status: it has risen where the status is that of a fault,
-- and else is as it was
pub record Counts (of_fault before after status : ℕ) : Type 0 where
  pub later : before ≤ after
  pub fault : status ≡ of_fault → HasRisen before after
  pub uncounted : (status ≡ of_fault → ⊥) → after ≡ before

-- a call with this source and this sink ended as the report says
pub record Ends {S K : Type 0} (s : sources.Ghosts S) (k : sinks.Ghosts K) (source source' : S) (sink sink' : K) (r : Report)
    : Type 0 where
  -- there are eight statuses
  pub known : r.status ≤ 7
  -- only a refusal names a line: of a recording, or of a transcript
  pub place : (r.status ≡ 1 → ⊥) → (r.status ≡ 6 → ⊥) → r.line ≡ 0
  -- and only that of a recording a rule of the map
  pub rule : (r.status ≡ 1 → ⊥) → r.rule ≡ 0
  -- only a refusal and a way that isn't there have a fault
  pub fault : (r.status ≡ 1 → ⊥) → (r.status ≡ 7 → ⊥) → r.fault ≡ 0
  -- and that of a way is 1 or 2
  pub no_way : r.status ≡ 7 → (r.fault ≡ 1) ⊎ (r.fault ≡ 2)
  -- words that ask for nothing leave both as they were
  pub untouched : r.status ≡ 2 → (source' ≡ source) × (sink' ≡ sink)
  -- and no frame was run for them
  pub no_frame : r.status ≡ 2 → r.last ≡ None
  -- nor has the report journals of frames
  pub no_journals : r.status ≡ 2 → r.all ≡ []
  -- the source failed exactly where the status says so
  pub reads : Counts 3 (s.faults source) (s.faults source') r.status
  -- the sink failed exactly where the status says so
  pub writes : Counts 4 (k.faults sink) (k.faults sink') r.status
  -- a source that never fails didn't
  pub sure_reads : s.never_fails source → r.status ≡ 3 → ⊥
  -- where it failed, it hadn't given its end in this call
  pub before_end : r.status ≡ 3 → s.ended source' ≡ s.ended source
