-- Lifts stay inside the arena on all their way.
use Rattle.std.proofs.Common.{◌≡◌, ℕ, ◌≤◌, true, ℤ, pos, ◌+ℤ◌, ◌-ℤ◌, ◌≤ℤ◌, int_le, unsigned_abs, Some, IfSome, arith, sym, ap, ◌∙◌, subst}
use Rattle.std.proofs.lemmas.Int.{ints}
use Rattle.arena_geo.specs.declared.vec3.Vec3.{Vec3}
use Rattle.arena_geo.specs.Vectors.{IsNear}
use Rattle.arena_geo.specs.Bounds.{Bounds, bounds}
use Rattle.arena_geo.specs.Boxes.{contains_on, contains}
use Rattle.arena_map.specs.declared.lift.Lift as lifts
use Rattle.arena_map.specs.declared.map_line.MapLine.{MapLine}
use Rattle.arena_map.specs.declared.map_line.MapLine.TheVariants.{Arena, Block, Spawn, Item, Teleport, Goal, Lift, Depth, Shots, Blocks}
use Rattle.arena_map.specs.Positions.{is_thick, box_at_the_top}
use Rattle.arena_map.specs.Things.{lift_data}
use Rattle.arena_map.specs.Maps.{MapView, IsThingInside, IsLift, IsMap}
use Rattle.std.proofs.lemmas.Option.{same_Some}
use Rattle.std.proofs.lemmas.Bool.{and_parts}
use Rattle.arena_geo.specs.Vectors.{plus}
use Rattle.arena_geo.proofs.Containment.{all_three}
use Rattle.entity_recs.specs.declared.kind.Kind.{Kind}
use Rattle.entity_recs.specs.declared.rec.Rec.{Rec}
use Rattle.entity_recs.specs.Records.{IsAboveZero, IsMapBox, IsShapeOf}
use Rattle.arena_map.specs.Things.{record_of}
use Rattle.arena_map.specs.Validity.{IsSameLift}
use Rattle.arena_map.specs.Laws.{IsLiftInside, LiftsStayInside}
use Rattle.arena_map.proofs.Boxes.{three_parts, thick_ordered}
use Rattle.arena_map.proofs.ThingRecords.{sized}
use Rattle.arena_map.proofs.Opening.{found-in, lift-of-line}

-- what is contained on an axis
record IsWithin (lo hi from to : ℤ) : Type 0 where
  low : lo ≤ℤ from
  high : to ≤ℤ hi

within : (lo hi from to : ℤ) → contains_on lo hi from to ≡ true → IsWithin lo hi from to
within lo hi from to h = let parts = and_parts (int_le lo from) (int_le to hi) h in record { low = grind (arith, ints); high = grind (arith, ints) }

-- what is contained on z
on_z : (a b : Bounds) → contains a b ≡ true → IsWithin a.lo.z a.hi.z b.lo.z b.hi.z
on_z a b h =
    let parts = three_parts (contains_on a.lo.x a.hi.x b.lo.x b.hi.x) (contains_on a.lo.y a.hi.y b.lo.y b.hi.y) (contains_on a.lo.z a.hi.z b.lo.z b.hi.z) h in
    within a.lo.z a.hi.z b.lo.z b.hi.z parts.2

-- the highest place is near enough
high-near : (low high from to rise : ℤ) → unsigned_abs low ≤ 1048576 → unsigned_abs high ≤ 1048576 → IsWithin low high (from +ℤ rise) (to +ℤ rise) → from ≤ℤ to
    → unsigned_abs (from +ℤ rise) ≤ 1048576
high-near low high from to rise near_low near_high is order = let a = is.low in let b = is.high in omega (arith, ints, a, b)

-- the data of a lift's line
pub lift-is_lift : (map : MapView) (line : MapLine) → IsMap map → IsThingInside map.bounds line → IfSome (lift_data line) IsLift
lift-is_lift map (Lift lo hi rise speed) is inside =
    let limits = inside.limits in
    let order = thick_ordered lo hi (and_parts (is_thick lo hi) (contains map.bounds (bounds lo hi)) inside.inside).0 in
    let way = on_z map.bounds (box_at_the_top lo hi rise) inside.travel in
    record {
      low = limits.0.z;
      high = high-near map.bounds.lo.z map.bounds.hi.z lo.z hi.z rise is.lo.z is.hi.z way order.z;
      least_rise = limits.2;
      most_rise = limits.3;
      least_speed = limits.4;
      most_speed = limits.5;
    }
lift-is_lift map (Arena lo hi) is inside = tt
lift-is_lift map (Block lo hi) is inside = tt
lift-is_lift map (Spawn at) is inside = tt
lift-is_lift map (Item at kind delay) is inside = tt
lift-is_lift map (Teleport lo hi dest) is inside = tt
lift-is_lift map (Goal lo hi) is inside = tt
lift-is_lift map (Depth depth) is inside = tt
lift-is_lift map Shots is inside = tt
lift-is_lift map (Blocks most) is inside = tt

-- ---- a lift on its way

-- a lift's record on its way, on an axis on which it doesn't move
level : (low high from to origin mins maxs : ℤ) → IsWithin low high from to → origin ≡ from → mins ≡ pos 0 → maxs ≡ to -ℤ from
    → contains_on low high (origin +ℤ mins) (origin +ℤ maxs) ≡ true
level low high from to origin mins maxs is o m n = let a = is.low in let b = is.high in grind (arith, ints, a, b, o, m, n)

-- and on z, between the lowest place and the highest
upright : (low high from to rise origin mins maxs : ℤ) → IsWithin low high from to → IsWithin low high (from +ℤ rise) (to +ℤ rise)
    → from ≤ℤ origin → origin ≤ℤ (from +ℤ rise) → mins ≡ pos 0 → maxs ≡ to -ℤ from
    → contains_on low high (origin +ℤ mins) (origin +ℤ maxs) ≡ true
upright low high from to rise origin mins maxs is up above below m n =
    let a = is.low in
    let b = up.high in
    grind (arith, ints, a, b, above, below, m, n)

-- what lies between near places is near
between-near : (low high at : ℤ) → unsigned_abs low ≤ 1048576 → unsigned_abs high ≤ 1048576 → low ≤ℤ at → at ≤ℤ high → unsigned_abs at ≤ 1048576
between-near low high at a b above below = omega (arith, ints, above, below)

-- the top of a lift on its way
top-near : (low high to rise from origin maxs : ℤ) → unsigned_abs low ≤ 1048576 → unsigned_abs high ≤ 1048576 → IsWithin low high from to
    → IsWithin low high (from +ℤ rise) (to +ℤ rise) → from ≤ℤ to → from ≤ℤ origin → origin ≤ℤ (from +ℤ rise) → maxs ≡ to -ℤ from → unsigned_abs (origin +ℤ maxs) ≤ 1048576
top-near low high to rise from origin maxs a b is up order above below n =
    let c = is.low in
    let d = up.high in
    omega (arith, ints, c, d, above, below, n, order)

-- three axes of what is contained
record IsInside (arena b : Bounds) : Type 0 where
  x : IsWithin arena.lo.x arena.hi.x b.lo.x b.hi.x
  y : IsWithin arena.lo.y arena.hi.y b.lo.y b.hi.y
  z : IsWithin arena.lo.z arena.hi.z b.lo.z b.hi.z

inside-of : (a b : Bounds) → contains a b ≡ true → IsInside a b
inside-of a b h =
    let parts = three_parts (contains_on a.lo.x a.hi.x b.lo.x b.hi.x) (contains_on a.lo.y a.hi.y b.lo.y b.hi.y) (contains_on a.lo.z a.hi.z b.lo.z b.hi.z) h in
    record {
      x = within a.lo.x a.hi.x b.lo.x b.hi.x parts.0;
      y = within a.lo.y a.hi.y b.lo.y b.hi.y parts.1;
      z = within a.lo.z a.hi.z b.lo.z b.hi.z parts.2;
    }

near-there : (at lo : ℤ) → at ≡ lo → unsigned_abs lo ≤ 1048576 → unsigned_abs at ≤ 1048576
near-there at lo e near = omega (arith, ints, e, near)

near-top : (origin maxs lo hi : ℤ) → origin ≡ lo → maxs ≡ hi -ℤ lo → unsigned_abs hi ≤ 1048576 → unsigned_abs (origin +ℤ maxs) ≤ 1048576
near-top origin maxs lo hi o m near = omega (arith, ints, o, m, near)

lift-inside : (map : MapView) (id : ℕ) (lo hi : Vec3) (rise speed : ℤ) (r : Rec) → IsMap map → IsThingInside map.bounds (Lift lo hi rise speed)
    → IsSameLift (record { low = lo.z; rise = rise; speed = speed }) (record_of id (Lift lo hi rise speed)) r → IsLiftInside map r
lift-inside map id lo hi rise speed r is inside same =
    let limits = inside.limits in
    let parts = and_parts (is_thick lo hi) (contains map.bounds (bounds lo hi)) inside.inside in
    let order = thick_ordered lo hi parts.0 in
    let at = inside-of map.bounds (bounds lo hi) parts.1 in
    let way = inside-of map.bounds (box_at_the_top lo hi rise) inside.travel in
    let high : unsigned_abs (lo.z +ℤ rise) ≤ 1048576 = high-near map.bounds.lo.z map.bounds.hi.z lo.z hi.z rise is.lo.z is.hi.z way.z order.z in
    let mins_x : r.mins.x ≡ pos 0 = ap (λ (v : Vec3). v.x) same.mins in
    let mins_y : r.mins.y ≡ pos 0 = ap (λ (v : Vec3). v.y) same.mins in
    let mins_z : r.mins.z ≡ pos 0 = ap (λ (v : Vec3). v.z) same.mins in
    let maxs_x : r.maxs.x ≡ hi.x -ℤ lo.x = ap (λ (v : Vec3). v.x) same.maxs in
    let maxs_y : r.maxs.y ≡ hi.y -ℤ lo.y = ap (λ (v : Vec3). v.y) same.maxs in
    let maxs_z : r.maxs.z ≡ hi.z -ℤ lo.z = ap (λ (v : Vec3). v.z) same.maxs in
    let origin : IsNear 1048576 r.origin = record {
      x = near-there r.origin.x lo.x same.x limits.0.x;
      y = near-there r.origin.y lo.y same.y limits.0.y;
      z = between-near lo.z (lo.z +ℤ rise) r.origin.z limits.0.z high same.low same.high;
    } in
    let Size : Vec3 → Type 0 = IsAboveZero in
    let top : IsNear 1048576 (plus r.origin r.maxs) = record {
      x = near-top r.origin.x r.maxs.x lo.x hi.x same.x maxs_x limits.1.x;
      y = near-top r.origin.y r.maxs.y lo.y hi.y same.y maxs_y limits.1.y;
      z = top-near map.bounds.lo.z map.bounds.hi.z hi.z rise lo.z r.origin.z r.maxs.z is.lo.z is.hi.z at.z way.z order.z same.low same.high maxs_z;
    } in
    let box : IsMapBox r.origin r.mins r.maxs = record { low_is = same.mins; has_size = subst Size (sym same.maxs) (sized lo hi parts.0); high = top } in
    let Shape : Kind → Type 0 = λ kind. IsShapeOf kind r.origin r.mins r.maxs in
    record {
      origin = origin;
      shape = subst Shape (sym same.kind) box;
      inside = all_three
          (level map.bounds.lo.x map.bounds.hi.x lo.x hi.x r.origin.x r.mins.x r.maxs.x at.x same.x mins_x maxs_x)
          (level map.bounds.lo.y map.bounds.hi.y lo.y hi.y r.origin.y r.mins.y r.maxs.y at.y same.y mins_y maxs_y)
          (upright map.bounds.lo.z map.bounds.hi.z lo.z hi.z rise r.origin.z r.mins.z r.maxs.z at.z way.z same.low same.high mins_z maxs_z);
    }

-- the lift of a line that has one
line-inside : (map : MapView) (id : ℕ) (line : MapLine) (lift : lifts.Lift) (r : Rec) → IsMap map → IsThingInside map.bounds line → lift_data line ≡ Some lift
    → IsSameLift lift (record_of id line) r → IsLiftInside map r
line-inside map id (Lift lo hi rise speed) lift r is inside has same =
    let P : lifts.Lift → Type 0 = λ l. IsSameLift l (record_of id (Lift lo hi rise speed)) r in
    lift-inside map id lo hi rise speed r is inside (subst P (sym (same_Some _ lift has)) same)
line-inside map id line lift r is inside has same = cc

pub lifts_stay_inside : LiftsStayInside
lifts_stay_inside map id lift thing r is has at same =
    let found = found-in map id thing is at in
    let P : Rec → Type 0 = λ t. IsSameLift lift t r in
    line-inside map id found.line lift r is found.inside (sym (lift-of-line map id found.line found.low found.at) ∙ has) (subst P found.is same)
