-- The box of a thing from its low corner.
use Rattle.std.proofs.Common.{◌≡◌, ap, ◌∙◌}
use Rattle.arena_geo.specs.declared.vec3.Vec3.{Vec3}
use Rattle.arena_geo.specs.Vectors.{plus, minus, zero_vector}
use Rattle.arena_geo.specs.Bounds.{bounds}
use Rattle.arena_geo.proofs.Vectors.{plus-zero_vector}
use Rattle.entity_recs.specs.Bodies.{box_at_origin}
use Rattle.arena_map.proofs.ThingRecords.{corner}

-- from a low corner, and as far from it as the high corner is, a box has these corners
pub box-is : (lo hi : Vec3) → box_at_origin lo zero_vector (minus hi lo) ≡ bounds lo hi
box-is lo hi = ap (λ low. bounds low (plus lo (minus hi lo))) (plus-zero_vector lo) ∙ ap (λ high. bounds lo high) (corner lo hi)
