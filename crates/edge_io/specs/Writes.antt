-- What writes of a text leave in a sink that knows its bytes.
use Rattle.std.specs.Prelude.{ℕ, ◌<◌, List, Option, length, take}
use Rattle.std.specs.Io.KnownBytes.{Appends}

-- a proper part of the bytes was appended: as many of them, from the front, as count says
pub record AppendsPart (old new : Option (List ℕ)) (bytes : List ℕ) : Type 0 where
  pub count : ℕ
  pub part : count < length bytes
  pub appended : Appends old new (take count bytes)
