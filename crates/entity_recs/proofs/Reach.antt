-- What a player touches, in numbers.
use Rattle.std.specs.Prelude.{◌≡◌, Bool, true, not, ◌&&◌, ℤ, pos, neg_ℤ, ◌+ℤ◌, ◌-ℤ◌, ◌≤ℤ◌}
use Rattle.std.proofs.Common.{refl, sym, ap, ◌∙◌, inl, inr, arith}
use Rattle.std.proofs.lemmas.Int.{ints}
use Rattle.arena_geo.specs.declared.vec3.Vec3.{Vec3}
use Rattle.arena_geo.specs.Bounds.{Bounds}
use Rattle.arena_geo.specs.Boxes.{touches_on, touches, box_grown_by}
use Rattle.arena_geo.proofs.Containment.{three_pass, all_three}
use Rattle.entity_recs.specs.declared.kind.Kind.{Kind}
use Rattle.entity_recs.specs.declared.kind.Kind.TheVariants.{Player, Ammo, Gem, Teleporter, Goal, Lift}
use Rattle.entity_recs.specs.declared.bodies.TheConstants.{ITEM_GROWTH, GROWTH}
use Rattle.entity_recs.specs.declared.rec.Rec.{Rec}
use Rattle.entity_recs.specs.Kinds.{is_solid}
use Rattle.entity_recs.specs.Records.{IsRecord}
use Rattle.entity_recs.specs.Bodies.{growth_of, body_of, abs_of, player_body, is_touched}
use Rattle.entity_recs.specs.Touches.{ComesWithin, IsInReach, OfItem, OfPlace, TouchesAreKnown}
use Rattle.entity_recs.proofs.Ids.{player_shape}

-- on one axis the interval comes within these distances of the origin
record IsClose (below above origin lo hi : ℤ) : Type 0 where
  low : lo ≤ℤ (origin +ℤ above)
  high : (origin -ℤ below) ≤ℤ hi

-- ---- one axis

item_beside : (o l h : ℤ) → touches_on (l -ℤ pos 3840) (h +ℤ pos 3840) (o +ℤ neg_ℤ (pos 4096) -ℤ pos 256) (o +ℤ pos 4096 +ℤ pos 256) ≡ true
    → IsClose (pos 8192) (pos 8192) o l h
item_beside o l h touch = record { low = grind (arith, ints); high = grind (arith, ints) }

item_beside_back : (o l h : ℤ) → IsClose (pos 8192) (pos 8192) o l h
    → touches_on (l -ℤ pos 3840) (h +ℤ pos 3840) (o +ℤ neg_ℤ (pos 4096) -ℤ pos 256) (o +ℤ pos 4096 +ℤ pos 256) ≡ true
item_beside_back o l h close =
    let a = close.low in
    let b = close.high in
    grind (arith, ints)

item_upright : (o l h : ℤ) → touches_on (l -ℤ pos 0) (h +ℤ pos 0) (o +ℤ neg_ℤ (pos 6144) -ℤ pos 256) (o +ℤ pos 8192 +ℤ pos 256) ≡ true
    → IsClose (pos 6400) (pos 8448) o l h
item_upright o l h touch = record { low = grind (arith, ints); high = grind (arith, ints) }

item_upright_back : (o l h : ℤ) → IsClose (pos 6400) (pos 8448) o l h
    → touches_on (l -ℤ pos 0) (h +ℤ pos 0) (o +ℤ neg_ℤ (pos 6144) -ℤ pos 256) (o +ℤ pos 8192 +ℤ pos 256) ≡ true
item_upright_back o l h close =
    let a = close.low in
    let b = close.high in
    grind (arith, ints)

place_beside : (o l h : ℤ) → touches_on (l -ℤ pos 256) (h +ℤ pos 256) (o +ℤ neg_ℤ (pos 4096) -ℤ pos 256) (o +ℤ pos 4096 +ℤ pos 256) ≡ true
    → IsClose (pos 4608) (pos 4608) o l h
place_beside o l h touch = record { low = grind (arith, ints); high = grind (arith, ints) }

place_beside_back : (o l h : ℤ) → IsClose (pos 4608) (pos 4608) o l h
    → touches_on (l -ℤ pos 256) (h +ℤ pos 256) (o +ℤ neg_ℤ (pos 4096) -ℤ pos 256) (o +ℤ pos 4096 +ℤ pos 256) ≡ true
place_beside_back o l h close =
    let a = close.low in
    let b = close.high in
    grind (arith, ints)

place_upright : (o l h : ℤ) → touches_on (l -ℤ pos 256) (h +ℤ pos 256) (o +ℤ neg_ℤ (pos 6144) -ℤ pos 256) (o +ℤ pos 8192 +ℤ pos 256) ≡ true
    → IsClose (pos 6656) (pos 8704) o l h
place_upright o l h touch = record { low = grind (arith, ints); high = grind (arith, ints) }

place_upright_back : (o l h : ℤ) → IsClose (pos 6656) (pos 8704) o l h
    → touches_on (l -ℤ pos 256) (h +ℤ pos 256) (o +ℤ neg_ℤ (pos 6144) -ℤ pos 256) (o +ℤ pos 8192 +ℤ pos 256) ≡ true
place_upright_back o l h close =
    let a = close.low in
    let b = close.high in
    grind (arith, ints)

-- ---- all axes

item_within : (o : Vec3) (b : Bounds) → touches (box_grown_by b ITEM_GROWTH) (box_grown_by (player_body o) GROWTH) ≡ true
    → ComesWithin (pos 8192) (pos 6400) (pos 8448) o b
item_within o b touch =
    let t = three_pass _ _ _ touch in
    let x = item_beside o.x b.lo.x b.hi.x t.x in
    let y = item_beside o.y b.lo.y b.hi.y t.y in
    let z = item_upright o.z b.lo.z b.hi.z t.z in
    record { low_x = x.low; high_x = x.high; low_y = y.low; high_y = y.high; low_z = z.low; high_z = z.high }

item_touches : (o : Vec3) (b : Bounds) → ComesWithin (pos 8192) (pos 6400) (pos 8448) o b
    → touches (box_grown_by b ITEM_GROWTH) (box_grown_by (player_body o) GROWTH) ≡ true
item_touches o b within =
    all_three
    (item_beside_back o.x b.lo.x b.hi.x (record { low = within.low_x; high = within.high_x }))
    (item_beside_back o.y b.lo.y b.hi.y (record { low = within.low_y; high = within.high_y }))
    (item_upright_back o.z b.lo.z b.hi.z (record { low = within.low_z; high = within.high_z }))

place_within : (o : Vec3) (b : Bounds) → touches (box_grown_by b GROWTH) (box_grown_by (player_body o) GROWTH) ≡ true
    → ComesWithin (pos 4608) (pos 6656) (pos 8704) o b
place_within o b touch =
    let t = three_pass _ _ _ touch in
    let x = place_beside o.x b.lo.x b.hi.x t.x in
    let y = place_beside o.y b.lo.y b.hi.y t.y in
    let z = place_upright o.z b.lo.z b.hi.z t.z in
    record { low_x = x.low; high_x = x.high; low_y = y.low; high_y = y.high; low_z = z.low; high_z = z.high }

place_touches : (o : Vec3) (b : Bounds) → ComesWithin (pos 4608) (pos 6656) (pos 8704) o b
    → touches (box_grown_by b GROWTH) (box_grown_by (player_body o) GROWTH) ≡ true
place_touches o b within =
    all_three
    (place_beside_back o.x b.lo.x b.hi.x (record { low = within.low_x; high = within.high_x }))
    (place_beside_back o.y b.lo.y b.hi.y (record { low = within.low_y; high = within.high_y }))
    (place_upright_back o.z b.lo.z b.hi.z (record { low = within.low_z; high = within.high_z }))

-- ---- a record of each kind

-- the absolute box of a player, of its origin
abs_of_player : (me : Rec) → IsRecord me → me.kind ≡ Player → abs_of me ≡ box_grown_by (player_body me.origin) GROWTH
abs_of_player me within is =
    let shape = player_shape me within is in
    rw (shape.low_is, shape.high_is, is) refl

-- the test, of a kind and a body
abbrev is_touched_at : Vec3 → Kind → Bounds → Bool
is_touched_at o kind body = not (is_solid kind) && touches (box_grown_by body (growth_of kind)) (box_grown_by (player_body o) GROWTH)

in_reach : (o : Vec3) (r : Rec) (kind : Kind) → r.kind ≡ kind → is_touched_at o kind (body_of r) ≡ true → IsInReach o r
in_reach o r Player is touch = cc
in_reach o r Ammo is touch = OfItem (inl is) (item_within o (body_of r) touch)
in_reach o r Gem is touch = OfItem (inr is) (item_within o (body_of r) touch)
in_reach o r Teleporter is touch = OfPlace (inl is) (place_within o (body_of r) touch)
in_reach o r Goal is touch = OfPlace (inr is) (place_within o (body_of r) touch)
in_reach o r Lift is touch = cc

reach_touches : (o : Vec3) (r : Rec) → IsInReach o r → is_touched_at o r.kind (body_of r) ≡ true
reach_touches o r (OfItem (inl is) within) = rw is (item_touches o (body_of r) within)
reach_touches o r (OfItem (inr is) within) = rw is (item_touches o (body_of r) within)
reach_touches o r (OfPlace (inl is) within) = rw is (place_touches o (body_of r) within)
reach_touches o r (OfPlace (inr is) within) = rw is (place_touches o (body_of r) within)

pub touches_are_known : TouchesAreKnown
touches_are_known me r within is =
    let abs = abs_of_player me within is in
    let same : is_touched (abs_of me) r ≡ is_touched_at me.origin r.kind (body_of r) = ap (λ (b : Bounds). is_touched b r) abs in
    (λ touch. in_reach me.origin r r.kind refl (sym same ∙ touch), λ reach. same ∙ reach_touches me.origin r reach)
