-- Boxes that grow have room for it.
use Rattle.std.proofs.Common.{◌≡◌, ℕ, ◌+◌, ◌*◌, ◌≤◌, min, ℤ, unsigned_abs, pos, ap, ◌∙◌, arith}
use Rattle.std.specs.Int.{w32}
use Rattle.std.proofs.lemmas.Nat.{mul-le}
use mir.Val.{to_z, of_z}
use Rattle.std.proofs.lemmas.Int.{ints, to_z-of_z, fits_signed_from_abs}
use Rattle.arena_geo.specs.declared.vec3.Vec3.{Vec3}
use Rattle.arena_geo.specs.Vectors.{vector, IsNotNegative, IsNear}
use Rattle.arena_geo.specs.Bounds.{Bounds, IsOrdered, IsInRange, IsBox}
use Rattle.arena_geo.specs.Boxes.{box_grown_by}
use Rattle.arena_geo.proofs.Ranges.{IsOrdered-grown}
use Rattle.entity_recs.specs.declared.rec.Rec.{Rec}
use Rattle.entity_recs.specs.Records.{IsRecord}
use Rattle.entity_recs.specs.Bodies.{body_of, growth_of, abs_of}
use Rattle.entity_recs.proofs.Standing.{shape_is_roomy, growth_is_small}
use Rattle.player_move.specs.Laws.{reach_on}
use Rattle.arena_outcomes.specs.Regions.{reach_of}

-- so much on each axis
abbrev pub amount : ℕ → ℕ → ℕ → Vec3
amount x y z = vector (pos x) (pos y) (pos z)

-- ordered, with each coordinate at most so far from 0
pub record IsBoxWithin (far : ℕ) (b : Bounds) : Type 0 where
  pub ordered : IsOrdered b
  pub lo : IsNear far b.lo
  pub hi : IsNear far b.hi

pub box_within : (far : ℕ) (b : Bounds) → far ≤ 2097152 → IsBoxWithin far b → IsBox b
box_within far b less is = record {
  ordered = is.ordered;
  in_range = record {
    lo = record { x = omega (arith, is.lo.x); y = omega (arith, is.lo.y); z = omega (arith, is.lo.z) };
    hi = record { x = omega (arith, is.hi.x); y = omega (arith, is.hi.y); z = omega (arith, is.hi.z) };
  };
}

-- a box that grows
pub within-grown : (far most more : ℕ) (b : Bounds) (by : Vec3) → far + most ≤ more → IsNotNegative by → IsNear most by
    → IsBoxWithin far b → IsBoxWithin more (box_grown_by b by)
within-grown far most more b by less positive near is = record {
  ordered = IsOrdered-grown b by is.ordered positive;
  lo = record {
    x = omega (arith, ints, is.lo.x, near.x);
    y = omega (arith, ints, is.lo.y, near.y);
    z = omega (arith, ints, is.lo.z, near.z);
  };
  hi = record {
    x = omega (arith, ints, is.hi.x, near.x);
    y = omega (arith, ints, is.hi.y, near.y);
    z = omega (arith, ints, is.hi.z, near.z);
  };
}

amount_is_positive : (x y z : ℕ) → IsNotNegative (amount x y z)
amount_is_positive x y z = record { x = omega (arith, ints); y = omega (arith, ints); z = omega (arith, ints) }

amount_is_near : (x y z most : ℕ) → x ≤ most → y ≤ most → z ≤ most → IsNear most (amount x y z)
amount_is_near x y z most x_near y_near z_near =
    record { x = omega (arith, x_near); y = omega (arith, y_near); z = omega (arith, z_near) }

pub within-grown_by : (far most more : ℕ) (b : Bounds) (x y z : ℕ) → far + most ≤ more → x ≤ most → y ≤ most → z ≤ most
    → IsBoxWithin far b → IsBoxWithin more (box_grown_by b (amount x y z))
within-grown_by far most more b x y z less x_near y_near z_near is =
    within-grown far most more b (amount x y z) less (amount_is_positive x y z) (amount_is_near x y z most x_near y_near z_near) is

-- the boxes of a record
pub body_within : (r : Rec) → IsRecord r → IsBoxWithin 1062912 (body_of r)
body_within r is =
    let roomy = shape_is_roomy r.kind r.origin r.mins r.maxs is.origin is.shape
    in record { ordered = roomy.ordered; lo = roomy.low; hi = roomy.high }

pub abs_within : (r : Rec) → IsRecord r → IsBoxWithin 1066752 (abs_of r)
abs_within r is =
    let small = growth_is_small r.kind in
    within-grown 1062912 3840 1066752 (body_of r) (growth_of r.kind) (omega arith) small.positive small.near (body_within r is)

-- a box that grows so stays within the range
pub grows_in_range : (b low : Bounds) (by : Vec3) (x y z far : ℕ) → b ≡ low → by ≡ amount x y z → x ≤ 100000
    → y ≤ 100000 → z ≤ 100000 → far ≤ 1900000 → IsBoxWithin far low → IsInRange (box_grown_by b by)
grows_in_range b low by x y z far b_is by_is x_near y_near z_near less is =
    let box =
    box_within (far + 100000) (box_grown_by low (amount x y z)) (omega arith) (within-grown_by far 100000 (far
    + 100000) low x y z (omega arith) x_near y_near z_near is) in
    rw (b_is, by_is) box.in_range

-- a speed that is read is that speed
pub read-reach : (n ms : ℕ) (speed : ℤ) → unsigned_abs speed ≤ 512000 → n ≡ reach_on (to_z w32 (of_z w32 speed)) ms
    → n ≡ reach_on speed ms
read-reach n ms speed near is =
    is ∙ ap (λ (z : ℤ). reach_on z ms) (to_z-of_z w32 speed (fits_signed_from_abs w32 speed (omega (arith, near))))

-- how far a move goes
pub reach_is_near : (speed : ℤ) (ms : ℕ) → ms ≤ 50 → reach_on speed ms ≤ 25600
reach_is_near speed ms short =
    let product : min 512000 (unsigned_abs speed + 81920) * ms ≤ 512000 * 50 =
    mul-le (min 512000 (unsigned_abs speed + 81920)) ms 512000 50 (omega arith) short in
    omega (arith, product)

-- and so the reach
pub reach_within : (me : Rec) (ms : ℕ) → IsRecord me → ms ≤ 50 → IsBoxWithin 1097216 (reach_of me ms)
reach_within me ms is short =
    let x = reach_is_near me.vel.x ms short in
    let y = reach_is_near me.vel.y ms short in
    let z = reach_is_near me.vel.z ms short in
    within-grown_by 1066752 30464 1097216 (abs_of me) (reach_on me.vel.x ms + 256) (reach_on me.vel.y ms
    + 256) (reach_on me.vel.z ms + 4864) (omega arith) (omega (arith, x)) (omega (arith, y)) (omega (arith, z))
    (abs_within me is)
