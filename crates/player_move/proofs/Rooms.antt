-- The room that a body has, and what moves leave of it.
use Rattle.std.proofs.Common.{ℕ, ◌+◌, ◌≤◌, arith}
use Rattle.std.proofs.lemmas.Int.{ints, fits_signed_from_abs}
use Rattle.std.specs.Int.{w32}
use Rattle.arena_geo.specs.declared.vec3.Vec3.{Vec3}
use Rattle.arena_geo.specs.Vectors.{IsNear, Fits, plus}
use Rattle.arena_geo.specs.Bounds.{Bounds, IsInRange}
use Rattle.arena_geo.specs.Boxes.{box_moved_by}
use Rattle.player_move.specs.Ranges.{IsWithin}

pub IsNear-plus : (a b far : ℕ) (v w : Vec3) → a + b ≤ far → IsNear a v → IsNear b w → IsNear far (plus v w)
IsNear-plus a b far v w less p q = record {
  x = omega (arith, ints, p.x, q.x);
  y = omega (arith, ints, p.y, q.y);
  z = omega (arith, ints, p.z, q.z);
}

pub Fits-near : (far : ℕ) (v : Vec3) → far ≤ 2097152 → IsNear far v → Fits v
Fits-near far v less is = record {
  x = fits_signed_from_abs w32 v.x (omega (arith, is.x));
  y = fits_signed_from_abs w32 v.y (omega (arith, is.y));
  z = fits_signed_from_abs w32 v.z (omega (arith, is.z));
}

-- a body that is moved near has still room
pub IsInRange-moved : (a b : ℕ) (body : Bounds) (by : Vec3) → a + b ≤ 2097152 → IsWithin a body → IsNear b by → IsInRange (box_moved_by body by)
IsInRange-moved a b body by less within near = record {
  lo = IsNear-plus a b 2097152 body.lo by less within.lo near;
  hi = IsNear-plus a b 2097152 body.hi by less within.hi near;
}

pub IsWithin-moved : (a b far : ℕ) (body : Bounds) (by : Vec3) → a + b ≤ far → IsWithin a body → IsNear b by → IsWithin far (box_moved_by body by)
IsWithin-moved a b far body by less within near = record {
  lo = IsNear-plus a b far body.lo by less within.lo near;
  hi = IsNear-plus a b far body.hi by less within.hi near;
}
