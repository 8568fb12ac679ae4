-- Text on its way to a sink.
use Rattle.std.specs.Prelude.{◌≡◌, ℕ, List, ◌++◌, Option}
use Rattle.std.specs.Io.KnownBytes.{Appends}

-- a front of the text was appended to what the sink took, and the rest is kept
pub record PassesFront (old new : Option (List ℕ)) (text rest : List ℕ) : Type 0 where
  pub front : List ℕ
  pub split : text ≡ front ++ rest
  pub appended : Appends old new front
