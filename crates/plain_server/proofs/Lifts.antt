-- At the start no two lifts overlap, since their shafts are apart.
use Rattle.std.proofs.Common.{◌≡◌, ℕ, ◌-◌, ◌<◌, true, false, ℤ, pos, ◌+ℤ◌, ◌≤ℤ◌, Some, refl, sym, ap, ◌∙◌, subst, arith}
use Rattle.std.proofs.lemmas.Int.{ints}
use Rattle.arena_geo.specs.declared.vec3.Vec3.{Vec3}
use Rattle.arena_geo.specs.Vectors.{minus, zero_vector}
use Rattle.arena_geo.specs.Bounds.{Bounds}
use Rattle.arena_geo.specs.Boxes.{contains_on, contains, overlaps}
use Rattle.arena_geo.proofs.Containment.{all_three}
use Rattle.entity_recs.specs.declared.kind.Kind.{Kind}
use Rattle.entity_recs.specs.declared.kind.Kind.TheVariants as kinds
use Rattle.entity_recs.specs.declared.rec.Rec.{Rec}
use Rattle.entity_recs.specs.Bodies.{box_at_origin, body_of}
use Rattle.entity_recs.specs.Kinds.{is_solid, is_item}
use Rattle.arena_map.specs.declared.map_line.MapLine.{MapLine}
use Rattle.arena_map.specs.declared.map_line.MapLine.TheVariants.{Arena, Depth, Shots, Blocks, Block, Spawn, Item, Teleport, Goal, Lift}
use Rattle.arena_map.specs.Positions.{shaft, shaft_of}
use Rattle.arena_map.specs.Things.{record_of}
use Rattle.arena_map.specs.Maps.{MapView, IsMap, IsThingInside}
use Rattle.arena_map.proofs.Opening.{IsFound}
use Rattle.world_physics.proofs.Shafts.{shafts_apart, apart_inside}
use Rattle.plain_server.proofs.Things.{box-is}

-- ---- lifts at the start

-- the line has a shaft, and the body is inside it
record IsInShaft (line : MapLine) (body : Bounds) : Type 0 where
  own : Bounds
  is : shaft_of line ≡ Some own
  inside : contains own body ≡ true

on_level : (lo hi : ℤ) → contains_on lo (hi +ℤ pos 0) lo hi ≡ true
on_level lo hi = grind (arith, ints)

on_way : (lo hi rise : ℤ) → pos 1 ≤ℤ rise → contains_on lo (hi +ℤ rise) lo hi ≡ true
on_way lo hi rise least = grind (arith, ints)

lift_in_shaft : (lo hi : Vec3) (rise : ℤ) → pos 1 ≤ℤ rise → contains (shaft lo hi rise) (box_at_origin lo zero_vector (minus hi lo)) ≡ true
lift_in_shaft lo hi rise least =
    ap (contains (shaft lo hi rise)) (box-is lo hi) ∙ all_three (on_level lo.x hi.x) (on_level lo.y hi.y) (on_way lo.z hi.z rise least)

-- an item is no solid
item_passes : (kind : Kind) → is_item kind ≡ true → is_solid kind ≡ true → ⊥
item_passes kinds.Ammo item solid = cc
item_passes kinds.Gem item solid = cc
item_passes kind item solid = cc

-- a solid thing is a lift, at the start inside its shaft
solid_in_shaft : (arena : Bounds) (id : ℕ) (line : MapLine) → IsThingInside arena line → is_solid (record_of id line).kind ≡ true → IsInShaft line (body_of (record_of id line))
solid_in_shaft arena id (Lift lo hi rise speed) inside solid = record { own = shaft lo hi rise; is = refl; inside = lift_in_shaft lo hi rise inside.limits.2 }
solid_in_shaft arena id (Item at kind delay) inside solid = absurd (item_passes kind inside.limits.1 solid)
solid_in_shaft arena id (Teleport lo hi dest) inside solid = cc
solid_in_shaft arena id (Goal lo hi) inside solid = cc
solid_in_shaft arena id (Arena lo hi) inside solid = let no = inside.thing in cc
solid_in_shaft arena id (Block lo hi) inside solid = let no = inside.thing in cc
solid_in_shaft arena id (Spawn at) inside solid = let no = inside.thing in cc
solid_in_shaft arena id (Depth depth) inside solid = let no = inside.thing in cc
solid_in_shaft arena id Shots inside solid = let no = inside.thing in cc
solid_in_shaft arena id (Blocks most) inside solid = let no = inside.thing in cc

found_in_shaft : (map : MapView) (id : ℕ) (r : Rec) (found : IsFound map.bounds 64 map.things id r) → is_solid r.kind ≡ true → IsInShaft found.line (body_of r)
found_in_shaft map id r found solid =
    let P : Rec → Type 0 = λ t. is_solid t.kind ≡ true in
    let Q : Rec → Type 0 = λ t. IsInShaft found.line (body_of t) in
    subst Q (sym found.is) (solid_in_shaft map.bounds id found.line found.inside (subst P found.is solid))

-- at the start the bodies of two solid things don't overlap
pub solids_apart : (map : MapView) (i j : ℕ) (r s : Rec) → IsMap map → IsFound map.bounds 64 map.things i r → IsFound map.bounds 64 map.things j s
    → is_solid r.kind ≡ true → is_solid s.kind ≡ true → i < j → overlaps (body_of r) (body_of s) ≡ false
solids_apart map i j r s is at_i at_j solid_r solid_s before =
    let one = found_in_shaft map i r at_i solid_r in
    let other = found_in_shaft map j s at_j solid_s in
    let earlier : (i - 64) < (j - 64) = omega (arith, before, at_i.low, at_j.low) in
    apart_inside one.own other.own (body_of r) (body_of s) one.inside other.inside
    (shafts_apart map.things (i - 64) (j - 64) at_i.line at_j.line one.own other.own is.shafts_apart at_i.at at_j.at earlier one.is other.is)
