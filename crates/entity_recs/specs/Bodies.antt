-- The boxes of records, and which records a box touches.
use Rattle.std.specs.Prelude.{Bool, not, ◌&&◌}
use Rattle.arena_geo.specs.declared.vec3.Vec3.{Vec3}
use Rattle.arena_geo.specs.Vectors.{plus}
use Rattle.arena_geo.specs.Bounds.{Bounds, bounds}
use Rattle.arena_geo.specs.Boxes.{box_grown_by, touches}
use Rattle.entity_recs.specs.declared.kind.Kind.{Kind}
use Rattle.entity_recs.specs.declared.kind.Kind.TheVariants.{Ammo, Gem}
use Rattle.entity_recs.specs.declared.rec.Rec.{Rec}
use Rattle.entity_recs.specs.Kinds.{is_solid}
use Rattle.entity_recs.specs.declared.bodies.TheConstants.{PLAYER_MINS, PLAYER_MAXS, ITEM_GROWTH, GROWTH}

-- from the origin plus the one corner to the origin plus the other
abbrev pub box_at_origin : Vec3 → Vec3 → Vec3 → Bounds
box_at_origin origin mins maxs = bounds (plus origin mins) (plus origin maxs)

-- the body of a player at this origin
abbrev pub player_body : Vec3 → Bounds
player_body origin = box_at_origin origin PLAYER_MINS PLAYER_MAXS

-- the body of a record
abbrev pub body_of : Rec → Bounds
body_of r = box_at_origin r.origin r.mins r.maxs

-- by how much the absolute box of a kind is larger than the body on both sides of each axis
abbrev pub growth_of : Kind → Vec3
growth_of Ammo = ITEM_GROWTH
growth_of Gem = ITEM_GROWTH
growth_of _ = GROWTH

-- the absolute box of a record, which doesn't look at its state
abbrev pub abs_of : Rec → Bounds
abs_of r = box_grown_by (body_of r) (growth_of r.kind)

-- the record is a trigger, and its absolute box touches this box
abbrev pub is_touched : Bounds → Rec → Bool
is_touched abs r = not (is_solid r.kind) && touches (abs_of r) abs
