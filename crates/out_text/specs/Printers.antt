-- What printing through a buffer leaves in a sink and in the buffer.
use Rattle.std.specs.Prelude.{◌≡◌, ℕ, ◌+◌, ◌≤◌, List, ◌++◌, length, Option}
use Rattle.std.specs.Io.KnownBytes.{Appends}
use Rattle.edge_io.specs.Counts.{HasRisen}
use Rattle.edge_io.specs.Writes.{AppendsPart}

-- a text was put after what was pending: a front of both was written, and the rest is pending now; no fault was
-- counted, and the sink has room for as much less as was written
-- What is pending isn't part of what a sink has taken: contracts of `play` say what the sink has taken when it ends.
pub record Prints {S : Type 0} (taken : S → Option (List ℕ)) (faults room : S → ℕ) (old new : S)
    (before pending text : List ℕ) : Type 0 where
  pub written : List ℕ
  pub appended : Appends (taken old) (taken new) written
  pub whole : before ++ text ≡ written ++ pending
  pub uncounted : faults new ≡ faults old
  pub roomy : room old ≤ room new + length written

-- a write failed: a fault was counted, and a front of these bytes was written, but not all
pub record FailsIn {S : Type 0} (taken : S → Option (List ℕ)) (faults : S → ℕ) (old new : S)
    (bytes : List ℕ) : Type 0 where
  pub part : AppendsPart (taken old) (taken new) bytes
  pub risen : HasRisen (faults old) (faults new)
  pub later : faults old ≤ faults new
