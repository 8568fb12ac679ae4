-- The records of things are within their bounds.
use Rattle.std.proofs.Common.{◌≡◌, ℕ, ◌+◌, ◌<◌, ◌≤◌, true, false, ◌&&◌, List, [], ◌∷◌, length, ℤ, pos, ◌+ℤ◌, ◌-ℤ◌, ◌<ℤ◌, int_lt, All, refl, sym, ap, ◌∙◌, subst, arith}
use Rattle.std.specs.List.{AllByRecursion, IsDistinct}
use Rattle.std.specs.Prelude.{map as map_list, nat_eq}
use Rattle.std.proofs.lemmas.Bool.Decides.{nat_tests}
use Rattle.std.proofs.lemmas.Int.{ints}
use Rattle.std.proofs.lemmas.List.Elements.{All-from_recursion}
use Rattle.std.proofs.lemmas.Bool.{and_parts}
use Rattle.arena_geo.specs.declared.vec3.Vec3.{Vec3}
use Rattle.arena_geo.specs.Vectors.{IsNear, plus, minus, vector, zero_vector}
use Rattle.arena_geo.specs.Bounds.{Bounds, bounds}
use Rattle.arena_geo.specs.Boxes.{contains}
use Rattle.entity_recs.specs.declared.kind.Kind.{Kind}
use Rattle.entity_recs.specs.declared.kind.Kind.TheVariants as kinds
use Rattle.entity_recs.specs.declared.limits.TheConstants.{IDS}
use Rattle.entity_recs.specs.declared.rec.Rec.{Rec}
use Rattle.entity_recs.specs.Records.{IsMapId, IsAboveZero, IsMapBox, IsRecord}
use Rattle.entity_recs.specs.Kinds.{is_item}
use Rattle.arena_map.specs.declared.map_line.MapLine.{MapLine}
use Rattle.arena_map.specs.declared.map_line.MapLine.TheVariants.{Arena, Block, Spawn, Item, Teleport, Goal, Lift, Depth, Shots, Blocks}
use Rattle.arena_map.specs.MapLines.{is_thing_line}
use Rattle.arena_map.specs.Positions.{is_thick}
use Rattle.arena_map.specs.Things.{record_of, records_from}
use Rattle.arena_map.specs.Maps.{MapView, entities_of, IsThingInside, IsMap}
use Rattle.arena_map.proofs.Boxes.{three_parts}
use Rattle.arena_map.proofs.Kept.{each-of, few_things}

above : (lo hi : ℤ) → int_lt lo hi ≡ true → pos 0 <ℤ (hi -ℤ lo)
above lo hi h = grind (arith, ints)

-- a place and the way from there to another give the other
pub there : (lo hi : ℤ) → lo +ℤ (hi -ℤ lo) ≡ hi
there lo hi = omega (arith, ints)

-- a box with an inside has a size, and ends at its high corner
pub sized : (lo hi : Vec3) → is_thick lo hi ≡ true → IsAboveZero (minus hi lo)
sized lo hi thick =
    let parts = three_parts (int_lt lo.x hi.x) (int_lt lo.y hi.y) (int_lt lo.z hi.z) thick in
    record { x = above lo.x hi.x parts.0; y = above lo.y hi.y parts.1; z = above lo.z hi.z parts.2 }

pub corner : (lo hi : Vec3) → plus lo (minus hi lo) ≡ hi
corner lo hi =
    ap (λ x. vector x (lo.y +ℤ (hi.y -ℤ lo.y)) (lo.z +ℤ (hi.z -ℤ lo.z))) (there lo.x hi.x)
    ∙ ap (λ y. vector hi.x y (lo.z +ℤ (hi.z -ℤ lo.z))) (there lo.y hi.y)
    ∙ ap (λ z. vector hi.x hi.y z) (there lo.z hi.z)

pub map_box : (lo hi : Vec3) → IsNear 1048576 hi → is_thick lo hi ≡ true → IsMapBox lo zero_vector (minus hi lo)
map_box lo hi near thick = record { low_is = refl; has_size = sized lo hi thick; high = subst (IsNear 1048576) (sym (corner lo hi)) near }

at_rest : IsNear 512000 zero_vector
at_rest = record { x = omega arith; y = omega arith; z = omega arith }

item-is_record : (id : ℕ) (kind : Kind) (at : Vec3) → IsMapId id → is_item kind ≡ true → IsNear 1048576 at → IsRecord (record_of id (Item at kind 1))
item-is_record id kinds.Ammo at own item near = record {
  id = own;
  origin = near;
  shape = record { low_is = refl; high_is = refl };
  vel = at_rest;
  flags = omega arith;
  ammo = omega arith;
  carry = omega arith;
}
item-is_record id kinds.Gem at own item near = record {
  id = own;
  origin = near;
  shape = record { low_is = refl; high_is = refl };
  vel = at_rest;
  flags = omega arith;
  ammo = omega arith;
  carry = omega arith;
}
item-is_record id kind at own item near = cc

thick-of : (arena : Bounds) (lo hi : Vec3) → (is_thick lo hi && contains arena (bounds lo hi)) ≡ true → is_thick lo hi ≡ true
thick-of arena lo hi h = (and_parts (is_thick lo hi) (contains arena (bounds lo hi)) h).0

-- the record of a thing that is placed by the rules
pub thing-is_record : (arena : Bounds) (id : ℕ) (line : MapLine) → IsMapId id → IsThingInside arena line → IsRecord (record_of id line)
thing-is_record arena id (Item at kind delay) own inside = item-is_record id kind at own inside.limits.1 inside.limits.0
thing-is_record arena id (Teleport lo hi dest) own inside = record {
  id = own;
  origin = inside.limits.0;
  shape = map_box lo hi inside.limits.1 (thick-of arena lo hi inside.inside);
  vel = at_rest;
  flags = omega arith;
  ammo = omega arith;
  carry = omega arith;
}
thing-is_record arena id (Goal lo hi) own inside = record {
  id = own;
  origin = inside.limits.0;
  shape = map_box lo hi inside.limits.1 (thick-of arena lo hi inside.inside);
  vel = at_rest;
  flags = omega arith;
  ammo = omega arith;
  carry = omega arith;
}
thing-is_record arena id (Lift lo hi rise speed) own inside = record {
  id = own;
  origin = inside.limits.0;
  shape = map_box lo hi inside.limits.1 (thick-of arena lo hi inside.inside);
  vel = at_rest;
  flags = omega arith;
  ammo = omega arith;
  carry = omega arith;
}
thing-is_record arena id (Arena lo hi) own inside = let no = inside.thing in cc
thing-is_record arena id (Block lo hi) own inside = let no = inside.thing in cc
thing-is_record arena id (Spawn at) own inside = let no = inside.thing in cc
thing-is_record arena id (Depth depth) own inside = let no = inside.thing in cc
thing-is_record arena id Shots own inside = let no = inside.thing in cc
thing-is_record arena id (Blocks most) own inside = let no = inside.thing in cc

records-are : (arena : Bounds) (first : ℕ) (things : List MapLine) → 64 ≤ first → first + length things ≤ IDS → AllByRecursion (IsThingInside arena) things
    → AllByRecursion IsRecord (records_from first things)
records-are arena first [] low high each = tt
records-are arena first (line ∷ things) low high each = (
  thing-is_record arena first line (record { least = low; most = omega (arith, high) }) each.0,
  records-are arena (first + 1) things (omega (arith, low)) (omega (arith, high)) each.1,
)

-- each thing of a map has a record within its bounds
pub entities-are : (map : MapView) → IsMap map → All IsRecord (entities_of map)
entities-are map is =
    All-from_recursion IsRecord (entities_of map)
    (records-are map.bounds 64 map.things (omega arith) (omega (arith, few_things map is)) (each-of (IsThingInside map.bounds) (IsThingInside map.bounds) map.things (λ line inside. inside) is.things))

-- ---- ids

-- the record of a thing has its id
pub own-id : (id : ℕ) (line : MapLine) → is_thing_line line ≡ true → (record_of id line).id ≡ id
own-id id (Item at kind delay) thing = refl
own-id id (Teleport lo hi dest) thing = refl
own-id id (Goal lo hi) thing = refl
own-id id (Lift lo hi rise speed) thing = refl
own-id id line thing = cc

-- later things have other ids
ids-later : (n first : ℕ) (things : List MapLine) → n < first → AllByRecursion (λ line. is_thing_line line ≡ true) things
    → AllByRecursion (λ id. nat_eq n id ≡ false) (map_list (λ (r : Rec). r.id) (records_from first things))
ids-later n first [] below each = tt
ids-later n first (line ∷ things) below each =
    let own = own-id first line each.0 in
    let other : nat_eq n first ≡ false = grind (arith, nat_tests) in
    (ap (nat_eq n) own ∙ other, ids-later n (first + 1) things (omega (arith, below)) each.1)

ids-apart : (first : ℕ) (things : List MapLine) → AllByRecursion (λ line. is_thing_line line ≡ true) things
    → IsDistinct nat_eq (map_list (λ (r : Rec). r.id) (records_from first things))
unfolding IsDistinct
ids-apart first [] each = tt
ids-apart first (line ∷ things) each =
    let own = own-id first line each.0 in
    let Apart : ℕ → Type 0 = λ id. AllByRecursion (λ other. nat_eq id other ≡ false) (map_list (λ (r : Rec). r.id) (records_from (first + 1) things)) in
    (subst Apart (sym own) (ids-later first (first + 1) things (omega arith) each.1), ids-apart (first + 1) things each.1)

-- no two things of a map have one id
pub entities-apart : (map : MapView) → IsMap map → IsDistinct nat_eq (map_list (λ (r : Rec). r.id) (entities_of map))
entities-apart map is =
    ids-apart 64 map.things (each-of (IsThingInside map.bounds) (λ line. is_thing_line line ≡ true) map.things (λ line inside. inside.thing) is.things)
