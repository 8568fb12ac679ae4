-- The walls are boxes.
use Rattle.std.proofs.Common.{arith}
use Rattle.std.proofs.lemmas.Int.{ints}
use Rattle.arena_geo.specs.Vectors.{IsNear}
use Rattle.arena_geo.specs.Bounds.{Bounds, bounds, IsOrdered, IsBox}
use Rattle.box_trace.specs.Walls.{low, high, with_x}

-- the corners of an arena
pub record AreCorners (b : Bounds) : Type 0 where
  pub lo : IsNear 1048576 b.lo
  pub hi : IsNear 1048576 b.hi
  pub ordered : IsOrdered b

pub IsBox-low_x : (b : Bounds) → AreCorners b → IsBox (bounds (low b) (with_x (high b) b.lo))
IsBox-low_x b corners = record {
  ordered = record { x = omega (arith, ints); y = omega (arith, ints); z = omega (arith, ints) };
  in_range = record {
    lo = record { x = omega (arith, ints); y = omega (arith, ints); z = omega (arith, ints) };
    hi = record { x = omega (arith, ints); y = omega (arith, ints); z = omega (arith, ints) };
  };
}
