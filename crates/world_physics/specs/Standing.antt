-- Which players stand on a lift, in numbers.
use Rattle.std.specs.Prelude.{◌≡◌, ◌↔◌, true, false, pos, ◌+ℤ◌, ◌-ℤ◌, ◌<ℤ◌, ◌≤ℤ◌}
use Rattle.arena_geo.specs.Boxes.{overlaps}
use Rattle.entity_recs.specs.declared.kind.Kind.TheVariants as kinds
use Rattle.entity_recs.specs.declared.rec.Rec.{Rec}
use Rattle.entity_recs.specs.Records.{IsRecord}
use Rattle.entity_recs.specs.Bodies.{body_of}
use Rattle.world_physics.specs.LiftSteps.{stands_on}

-- a player, which is 4,096 wide to each side of its origin, and a lift have a common inside on x and y; an edge isn't
-- enough
pub record IsAcross (lift player : Rec) : Type 0 where
  pub from_low_x : lift.origin.x <ℤ (player.origin.x +ℤ pos 4096)
  pub to_high_x : (player.origin.x -ℤ pos 4096) <ℤ (lift.origin.x +ℤ lift.maxs.x)
  pub from_low_y : lift.origin.y <ℤ (player.origin.y +ℤ pos 4096)
  pub to_high_y : (player.origin.y -ℤ pos 4096) <ℤ (lift.origin.y +ℤ lift.maxs.y)

-- the player's bottom, which is 6,144 below its origin, is level with the lift's top
pub record IsOnTop (lift player : Rec) : Type 0 where
  pub across : IsAcross lift player
  pub level : player.origin.z ≡ lift.origin.z +ℤ lift.maxs.z +ℤ pos 6144

-- the player's bottom is level with the lift's top or below it, and its top, which is 8,192 above its origin, is more than
-- 1 above the lift's bottom
pub record IsOnOrIn (lift player : Rec) : Type 0 where
  pub across : IsAcross lift player
  pub bottom : player.origin.z ≤ℤ (lift.origin.z +ℤ lift.maxs.z +ℤ pos 6144)
  pub top : (lift.origin.z +ℤ pos 1) <ℤ (player.origin.z +ℤ pos 8192)

-- the first record is a lift's and the second a player's, both within their bounds
pub record AreLiftAndPlayer (lift player : Rec) : Type 0 where
  pub lift_is : lift.kind ≡ kinds.Lift
  pub lift_record : IsRecord lift
  pub player_is : player.kind ≡ kinds.Player
  pub player_record : IsRecord player

-- a player whose body doesn't overlap the lift's stands on it exactly where it is on its top, and any player exactly
-- where it is on it or in it
pub record StandingIsKnown : Type 0 where
  pub apart : (lift player : Rec) → AreLiftAndPlayer lift player → overlaps (body_of player) (body_of lift) ≡ false
      → (stands_on lift player ≡ true) ↔ IsOnTop lift player
  pub any : (lift player : Rec) → AreLiftAndPlayer lift player
      → (stands_on lift player ≡ true) ↔ IsOnOrIn lift player
