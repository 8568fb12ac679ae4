-- What a source over a reader of the standard library and a sink over a writer are seen as.
use Rattle.std.specs.Prelude.{ℕ, Bool, true}

-- the reader, how many of its errors were counted, how many bytes the last read that succeeded gave, and whether the
-- reader gave the end of input
pub record StdSourceView (R : Type 0) : Type 0 where
  pub inner : R
  pub errors : ℕ
  pub last : ℕ
  pub ended : Bool

-- the writer, and how many faults were counted
pub record StdSinkView (W : Type 0) : Type 0 where
  pub inner : W
  pub errors : ℕ

-- a source that has given its end, after one more read
abbrev pub after_end_read : {R : Type 0} → StdSourceView R → StdSourceView R
after_end_read source = record { inner = source.inner; errors = source.errors; last = 0; ended = true }
