-- How much room a body has in the range of coordinates.
use Rattle.std.specs.Prelude.{ℕ}
use Rattle.arena_geo.specs.Vectors.{IsNear}
use Rattle.arena_geo.specs.Bounds.{Bounds}

-- each coordinate is at most far from 0
pub record IsWithin (far : ℕ) (b : Bounds) : Type 0 where
  pub lo : IsNear far b.lo
  pub hi : IsNear far b.hi
