-- The box that a player sees.
use Rattle.std.proofs.Common.{◌≡◌, arith}
use Rattle.std.proofs.lemmas.Int.{ints}
use Rattle.arena_geo.specs.declared.vec3.Vec3.{Vec3}
use Rattle.arena_geo.specs.Vectors.{IsNear, plus, minus}
use Rattle.arena_geo.specs.Bounds.{bounds, IsBox}
use Rattle.snapshot_write.specs.Snapshots.{sight, view_of}

IsBox-view : (origin : Vec3) → IsNear 1048576 origin → IsBox (view_of origin)
IsBox-view origin near = record {
  ordered = record { x = omega (arith, ints); y = omega (arith, ints); z = omega (arith, ints) };
  in_range = record {
    lo = record { x = omega (arith, ints); y = omega (arith, ints); z = omega (arith, ints) };
    hi = record { x = omega (arith, ints); y = omega (arith, ints); z = omega (arith, ints) };
  };
}

-- its corners make a box
pub box_of_view : (origin lo hi : Vec3) → IsNear 1048576 origin → lo ≡ minus origin sight → hi ≡ plus origin sight
    → IsBox (bounds lo hi)
box_of_view origin lo hi near low high = rw (low, high) (IsBox-view origin near)
