-- Records and their bodies, higher by a little.
use Rattle.std.proofs.Common.{◌≡◌, ◌≤◌, ℤ, unsigned_abs, arith}
use Rattle.std.proofs.lemmas.Int.{ints}
use Rattle.arena_geo.specs.declared.vec3.Vec3.{Vec3}
use Rattle.arena_geo.specs.Bounds.{Bounds, IsInRange}
use Rattle.arena_geo.specs.Boxes.{box_moved_by}
use Rattle.entity_recs.specs.declared.rec.Rec.{Rec}
use Rattle.entity_recs.specs.Records.{IsRecord}
use Rattle.entity_recs.specs.Bodies.{body_of}
use Rattle.entity_recs.proofs.Standing.{IsRoomy, shape_is_roomy}
use Rattle.arena_map.specs.Positions.{upwards}

roomy_in_range : (b : Bounds) (up : ℤ) → IsRoomy b → unsigned_abs up ≤ 2560 → IsInRange (box_moved_by b (upwards up))
roomy_in_range b up roomy far =
    let low = roomy.low in
    let high = roomy.high in
    record {
      lo = record { x = omega (arith, ints); y = omega (arith, ints); z = omega (arith, ints) };
      hi = record { x = omega (arith, ints); y = omega (arith, ints); z = omega (arith, ints) };
    }

-- the body of a record is in range after a step
pub body_in_range : (r : Rec) (up : ℤ) → IsRecord r → unsigned_abs up ≤ 2560 → IsInRange (box_moved_by (body_of r) (upwards up))
body_in_range r up is far = roomy_in_range (body_of r) up (shape_is_roomy r.kind r.origin r.mins r.maxs is.origin is.shape) far

-- the body of a record, moved by a step, is in range
pub raised_in_range : (r : Rec) (b : Bounds) (by : Vec3) (up : ℤ) → IsRecord r → unsigned_abs up ≤ 2560 → b ≡ body_of r
    → by ≡ upwards up → IsInRange (box_moved_by b by)
raised_in_range r b by up is far body_is by_is = rw (body_is, by_is) (body_in_range r up is far)
