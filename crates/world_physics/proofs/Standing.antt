-- Which players stand on a lift.
use Rattle.std.proofs.Common.{◌≡◌, ℤ, pos, neg_ℤ, ◌+ℤ◌, ◌-ℤ◌, ◌<ℤ◌, ◌≤ℤ◌, true, false, sym, ◌∙◌, arith}
use Rattle.std.proofs.lemmas.Int.{ints}
use Rattle.arena_geo.specs.declared.vec3.Vec3.{Vec3}
use Rattle.arena_geo.specs.Vectors.{zero_vector}
use Rattle.arena_geo.specs.Bounds.{Bounds}
use Rattle.arena_geo.specs.Boxes.{overlaps_on, overlaps, box_moved_by}
use Rattle.arena_geo.proofs.Containment.{three_pass, all_three}
use Rattle.arena_geo.proofs.Overlaps.{overlaps_on-stays, third_fails}
use Rattle.entity_recs.specs.declared.kind.Kind.{Kind}
use Rattle.entity_recs.specs.declared.kind.Kind.TheVariants as kinds
use Rattle.entity_recs.specs.declared.rec.Rec.{Rec}
use Rattle.entity_recs.specs.declared.bodies.TheConstants.{PLAYER_MINS, PLAYER_MAXS}
use Rattle.entity_recs.specs.Records.{HasCorners, IsMapBox, IsShapeOf}
use Rattle.entity_recs.specs.Bodies.{box_at_origin, body_of}
use Rattle.arena_map.specs.Positions.{upwards}
use Rattle.world_physics.specs.LiftSteps.{stands_on}
use Rattle.world_physics.specs.Standing.{IsAcross, IsOnTop, IsOnOrIn, AreLiftAndPlayer, StandingIsKnown}

-- ---- the bodies

player_shape : (kind : Kind) (origin mins maxs : Vec3) → kind ≡ kinds.Player → IsShapeOf kind origin mins maxs → HasCorners PLAYER_MINS PLAYER_MAXS mins maxs
player_shape kinds.Player origin mins maxs is shape = shape
player_shape kinds.Ammo origin mins maxs is shape = cc
player_shape kinds.Gem origin mins maxs is shape = cc
player_shape kinds.Teleporter origin mins maxs is shape = cc
player_shape kinds.Goal origin mins maxs is shape = cc
player_shape kinds.Lift origin mins maxs is shape = cc

lift_shape : (kind : Kind) (origin mins maxs : Vec3) → kind ≡ kinds.Lift → IsShapeOf kind origin mins maxs → IsMapBox origin mins maxs
lift_shape kinds.Player origin mins maxs is shape = cc
lift_shape kinds.Ammo origin mins maxs is shape = cc
lift_shape kinds.Gem origin mins maxs is shape = cc
lift_shape kinds.Teleporter origin mins maxs is shape = cc
lift_shape kinds.Goal origin mins maxs is shape = cc
lift_shape kinds.Lift origin mins maxs is shape = shape

-- ---- one axis

-- across: on an axis that isn't changed
across_of : (at lo size : ℤ) → overlaps_on ((at +ℤ neg_ℤ (pos 4096)) +ℤ pos 0) ((at +ℤ pos 4096) +ℤ pos 0) (lo +ℤ pos 0) (lo +ℤ size) ≡ true
    → (lo <ℤ (at +ℤ pos 4096)) × ((at -ℤ pos 4096) <ℤ (lo +ℤ size))
across_of at lo size h = (grind (arith, ints), grind (arith, ints))

of_across : (at lo size : ℤ) → lo <ℤ (at +ℤ pos 4096) → (at -ℤ pos 4096) <ℤ (lo +ℤ size)
    → overlaps_on ((at +ℤ neg_ℤ (pos 4096)) +ℤ pos 0) ((at +ℤ pos 4096) +ℤ pos 0) (lo +ℤ pos 0) (lo +ℤ size) ≡ true
of_across at lo size low high = grind (arith, ints)

-- up and down: moved down by 1
down_of : (at lo size : ℤ) → overlaps_on ((at +ℤ neg_ℤ (pos 6144)) +ℤ neg_ℤ (pos 1)) ((at +ℤ pos 8192) +ℤ neg_ℤ (pos 1)) (lo +ℤ pos 0) (lo +ℤ size) ≡ true
    → (at ≤ℤ (lo +ℤ size +ℤ pos 6144)) × ((lo +ℤ pos 1) <ℤ (at +ℤ pos 8192))
down_of at lo size h = (grind (arith, ints), grind (arith, ints))

of_down : (at lo size : ℤ) → at ≤ℤ (lo +ℤ size +ℤ pos 6144) → (lo +ℤ pos 1) <ℤ (at +ℤ pos 8192)
    → overlaps_on ((at +ℤ neg_ℤ (pos 6144)) +ℤ neg_ℤ (pos 1)) ((at +ℤ pos 8192) +ℤ neg_ℤ (pos 1)) (lo +ℤ pos 0) (lo +ℤ size) ≡ true
of_down at lo size bottom top = grind (arith, ints)

-- where they don't overlap on z, but do 1 lower, the one begins where the other ends
level_of : (at lo size : ℤ) → overlaps_on (at +ℤ neg_ℤ (pos 6144)) (at +ℤ pos 8192) (lo +ℤ pos 0) (lo +ℤ size) ≡ false
    → at ≤ℤ (lo +ℤ size +ℤ pos 6144) → (lo +ℤ pos 1) <ℤ (at +ℤ pos 8192) → at ≡ lo +ℤ size +ℤ pos 6144
level_of at lo size apart bottom top = grind (arith, ints)

-- ---- bodies with these corners

-- a player's body at this origin
abbrev body_at : Vec3 → Bounds
body_at at = box_at_origin at PLAYER_MINS PLAYER_MAXS

-- a lift's body with this low corner and this size
abbrev lift_at : Vec3 → Vec3 → Bounds
lift_at lo size = box_at_origin lo zero_vector size

abbrev lowered : Bounds → Bounds
lowered b = box_moved_by b (upwards (neg_ℤ (pos 1)))

record Meets (at lo size : Vec3) : Type 0 where
  low_x : lo.x <ℤ (at.x +ℤ pos 4096)
  high_x : (at.x -ℤ pos 4096) <ℤ (lo.x +ℤ size.x)
  low_y : lo.y <ℤ (at.y +ℤ pos 4096)
  high_y : (at.y -ℤ pos 4096) <ℤ (lo.y +ℤ size.y)
  bottom : at.z ≤ℤ (lo.z +ℤ size.z +ℤ pos 6144)
  top : (lo.z +ℤ pos 1) <ℤ (at.z +ℤ pos 8192)

meets_of : (at lo size : Vec3) → overlaps (lowered (body_at at)) (lift_at lo size) ≡ true → Meets at lo size
meets_of at lo size h =
    let t = three_pass _ _ _ h in
    let x = across_of at.x lo.x size.x t.x in
    let y = across_of at.y lo.y size.y t.y in
    let z = down_of at.z lo.z size.z t.z in
    record { low_x = x.0; high_x = x.1; low_y = y.0; high_y = y.1; bottom = z.0; top = z.1 }

of_meets : (at lo size : Vec3) → Meets at lo size → overlaps (lowered (body_at at)) (lift_at lo size) ≡ true
of_meets at lo size m =
    all_three (of_across at.x lo.x size.x m.low_x m.high_x) (of_across at.y lo.y size.y m.low_y m.high_y) (of_down at.z lo.z size.z m.bottom m.top)

apart_level : (at lo size : Vec3) → overlaps (body_at at) (lift_at lo size) ≡ false → overlaps (lowered (body_at at)) (lift_at lo size) ≡ true
    → at.z ≡ lo.z +ℤ size.z +ℤ pos 6144
apart_level at lo size apart h =
    let t = three_pass _ _ _ h in
    let z = down_of at.z lo.z size.z t.z in
    let x_on = sym (overlaps_on-stays (at.x +ℤ neg_ℤ (pos 4096)) (at.x +ℤ pos 4096) (lo.x +ℤ pos 0) (lo.x +ℤ size.x)) ∙ t.x in
    let y_on = sym (overlaps_on-stays (at.y +ℤ neg_ℤ (pos 4096)) (at.y +ℤ pos 4096) (lo.y +ℤ pos 0) (lo.y +ℤ size.y)) ∙ t.y in
    level_of at.z lo.z size.z (third_fails _ _ _ apart x_on y_on) z.0 z.1

-- ---- records

module _ (lift player : Rec) (are : AreLiftAndPlayer lift player) where
  player_body_is : body_of player ≡ body_at player.origin
  player_body_is =
      let corners = player_shape player.kind player.origin player.mins player.maxs are.player_is are.player_record.shape in
      λ i. box_at_origin player.origin (corners.low_is i) (corners.high_is i)

  lift_body_is : body_of lift ≡ lift_at lift.origin lift.maxs
  lift_body_is =
      let box = lift_shape lift.kind lift.origin lift.mins lift.maxs are.lift_is are.lift_record.shape in
      λ i. box_at_origin lift.origin (box.low_is i) lift.maxs

  stands_is : stands_on lift player ≡ overlaps (lowered (body_at player.origin)) (lift_at lift.origin lift.maxs)
  stands_is = λ i. overlaps (lowered (player_body_is i)) (lift_body_is i)

  overlap_is : overlaps (body_of player) (body_of lift) ≡ overlaps (body_at player.origin) (lift_at lift.origin lift.maxs)
  overlap_is = λ i. overlaps (player_body_is i) (lift_body_is i)

  meets : stands_on lift player ≡ true → Meets player.origin lift.origin lift.maxs
  meets stands = meets_of player.origin lift.origin lift.maxs (sym stands_is ∙ stands)

  across : Meets player.origin lift.origin lift.maxs → IsAcross lift player
  across m = record { from_low_x = m.low_x; to_high_x = m.high_x; from_low_y = m.low_y; to_high_y = m.high_y }

  stands : IsAcross lift player → player.origin.z ≤ℤ (lift.origin.z +ℤ lift.maxs.z +ℤ pos 6144)
      → (lift.origin.z +ℤ pos 1) <ℤ (player.origin.z +ℤ pos 8192) → stands_on lift player ≡ true
  stands over bottom top = stands_is ∙ of_meets player.origin lift.origin lift.maxs (record {
    low_x = over.from_low_x;
    high_x = over.to_high_x;
    low_y = over.from_low_y;
    high_y = over.to_high_y;
    bottom = bottom;
    top = top;
  })

  on_or_in : stands_on lift player ≡ true → IsOnOrIn lift player
  on_or_in box_at_origin = let m = meets box_at_origin in record { across = across m; bottom = m.bottom; top = m.top }

  on_top : overlaps (body_of player) (body_of lift) ≡ false → stands_on lift player ≡ true → IsOnTop lift player
  on_top apart box_at_origin = record {
    across = across (meets box_at_origin);
    level = apart_level player.origin lift.origin lift.maxs (sym overlap_is ∙ apart) (sym stands_is ∙ box_at_origin);
  }

  -- a lift is longer than 0 up and down
  from_top : IsOnTop lift player → stands_on lift player ≡ true
  from_top top =
      let size = (lift_shape lift.kind lift.origin lift.mins lift.maxs are.lift_is are.lift_record.shape).has_size.z in
      let level = top.level in
      stands top.across (grind (arith, ints)) (grind (arith, ints))

pub standing_is_known : StandingIsKnown
standing_is_known = record {
  apart = λ lift player are apart. (on_top lift player are apart, from_top lift player are);
  any = λ lift player are. (on_or_in lift player are, λ on. stands lift player are on.across on.bottom on.top);
}
