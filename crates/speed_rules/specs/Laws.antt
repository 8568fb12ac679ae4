-- What holds of the rules of a player's velocity.
use Rattle.std.specs.Prelude.{◌≡◌, ℕ, ◌+◌, ◌*◌, ◌/◌, ◌<◌, ◌≤◌, Bool, List, length, fold, All}
use Rattle.std.specs.Prelude.{ℤ, pos, neg_ℤ, ◌+ℤ◌, ◌-ℤ◌, ◌<ℤ◌, ◌≤ℤ◌, unsigned_abs}
use Rattle.std.specs.Int.{int_min, int_max}
use Rattle.arena_geo.specs.declared.vec3.Vec3.{Vec3}
use Rattle.arena_geo.specs.Vectors.{IsNear}
use Rattle.speed_rules.specs.declared.constants.TheConstants.{UNIT, SECOND, FRICTION, STOP_SPEED, ACCELERATE, MAX_SPEED}
use Rattle.speed_rules.specs.declared.constants.TheConstants.{MAX_AIR_SPEED, GRAVITY, JUMP_SPEED}
use Rattle.speed_rules.specs.declared.constants.TheConstants.{MAX_VELOCITY, MAX_UNCLAMPED}
use Rattle.speed_rules.specs.Measures.{speed_of, greatest_velocity}
use Rattle.speed_rules.specs.Rules.{velocity_after_jump, speed_after_friction, friction_of, accelerated_velocity, gravity_of, clamped_velocity, velocity_before_clamp}
use Rattle.speed_rules.specs.Wishes.{wish_length, dot_with_wish, cross_with_wish, part_along_wish}
use Rattle.speed_rules.specs.Wishes.{wish_cap, wish_gain}
use Rattle.speed_rules.specs.Changes.{Shortens, KeepsZeros, AddsAtMost, AddsUpwards, IsClamped, IsStill}

-- the numbers that the rules cite: Quake's, where a unit has 256 sub-units and a second 1,000 milliseconds; and the
-- limit of the velocities that they take, which is this project's
pub record AreQuakesNumbers : Type 0 where
  pub unit : UNIT ≡ pos 256
  pub second : SECOND ≡ 1000
  pub friction : FRICTION ≡ 4
  pub stop_speed : STOP_SPEED ≡ 100 * 256
  pub accelerate : ACCELERATE ≡ 10
  pub max_speed : MAX_SPEED ≡ 320 * 256
  pub max_air_speed : MAX_AIR_SPEED ≡ 30 * 256
  pub gravity : GRAVITY ≡ 800 * 256
  pub max_velocity : MAX_VELOCITY ≡ pos (2000 * 256)
  pub jump_speed : JUMP_SPEED ≡ pos (270 * 256)
  pub max_unclamped : MAX_UNCLAMPED ≡ 600000

-- ---- friction
-- friction never turns a component's sign nor lengthens it
abbrev pub FrictionShortens : Type 0
FrictionShortens = (v : Vec3) (ms : ℕ) → Shortens v (friction_of v ms)

-- friction keeps what is 0 on x and y, and all of a velocity without speed over the ground
abbrev pub FrictionKeepsZeros : Type 0
FrictionKeepsZeros = (v : Vec3) (ms : ℕ) → KeepsZeros v (friction_of v ms)

-- the speed over the ground that friction leaves is the slowed speed, but for at most 2 that the cuts lose; while there
-- is a speed the slowed speed is less
pub record Slows (v : Vec3) (ms : ℕ) : Type 0 where
  pub most : speed_of (friction_of v ms) ≤ speed_after_friction ms (speed_of v)
  pub least : speed_after_friction ms (speed_of v) ≤ speed_of (friction_of v ms) + 2
  pub less : 1 ≤ ms → 0 < speed_of v → speed_after_friction ms (speed_of v) < speed_of v

-- friction slows a player over the ground by what its formula says
abbrev pub FrictionSlows : Type 0
FrictionSlows = (v : Vec3) (ms : ℕ) → Slows v ms

-- a player whose speed is at most 102 for each of these moves is still over the ground after friction has acted in each
abbrev pub FrictionStops : Type 0
FrictionStops =
    (v : Vec3) (times : List ℕ)
    → All (λ ms. 1 ≤ ms) times
    → speed_of v ≤ 102 * length times
    → IsStill (fold friction_of v times)

-- ---- acceleration
-- acceleration adds at most what the time allows at the greatest wish, and nothing on z
abbrev pub AccelerationIsBounded : Type 0
AccelerationIsBounded =
    (v : Vec3) (wish_x wish_y : ℤ) (ms : ℕ) (on_ground : Bool)
    → AddsAtMost (ACCELERATE * MAX_SPEED * ms / SECOND) v (accelerated_velocity v wish_x wish_y ms on_ground)

-- the part along a wish is at most 1 past the cap, or where it was, and at most 1 more than the gain greater
pub record StopsAtCap (cap gain : ℕ) (old new : ℤ) : Type 0 where
  pub capped : new ≤ℤ int_max old (pos (cap + 1))
  pub allowed : new ≤ℤ (old +ℤ pos (gain + 1))

-- acceleration pushes the velocity's part along the wish no farther than the cap and than the time allows, but for 1
-- that the cuts may add
abbrev pub AccelerationStopsAtTheCap : Type 0
AccelerationStopsAtTheCap =
    (v : Vec3) (wish_x wish_y : ℤ) (ms : ℕ) (on_ground : Bool)
    → ms ≤ 50
    → let old = part_along_wish v wish_x wish_y in
    let new = part_along_wish (accelerated_velocity v wish_x wish_y ms on_ground) wish_x wish_y in
    StopsAtCap (wish_cap on_ground wish_x wish_y) (wish_gain wish_x wish_y ms) old new

-- the part along a wish is at most 3 short of the cap, or of what it was and the gain where that is less
pub record ReachesCap (cap gain : ℕ) (old new : ℤ) : Type 0 where
  pub reached : int_min (pos cap) (old +ℤ pos gain) ≤ℤ (new +ℤ pos 3)

-- acceleration brings the velocity's part along the wish to the cap, or as near to it as the time allows, but for at
-- most 3 that the cuts lose
abbrev pub AccelerationReachesTheCap : Type 0
AccelerationReachesTheCap =
    (v : Vec3) (wish_x wish_y : ℤ) (ms : ℕ) (on_ground : Bool)
    → 0 < wish_length wish_x wish_y
    → let old = part_along_wish v wish_x wish_y in
    let new = part_along_wish (accelerated_velocity v wish_x wish_y ms on_ground) wish_x wish_y in
    ReachesCap (wish_cap on_ground wish_x wish_y) (wish_gain wish_x wish_y ms) old new

-- at the cap the velocity is kept; where 2 or more are missing to it, it gains along the wish
pub record ActsBelowCap (v : Vec3) (wish_x wish_y : ℤ) (ms : ℕ) (on_ground : Bool) : Type 0 where
  pub rests : pos (wish_cap on_ground wish_x wish_y) ≤ℤ part_along_wish v wish_x wish_y
      → accelerated_velocity v wish_x wish_y ms on_ground ≡ v
  pub acts : 1 ≤ ms
      → 0 < wish_length wish_x wish_y
      → (part_along_wish v wish_x wish_y +ℤ pos 2) ≤ℤ pos (wish_cap on_ground wish_x wish_y)
      → dot_with_wish v wish_x wish_y <ℤ dot_with_wish (accelerated_velocity v wish_x wish_y ms on_ground) wish_x wish_y

-- acceleration acts below the cap, and there alone
abbrev pub AccelerationActsBelowTheCap : Type 0
AccelerationActsBelowTheCap =
    (v : Vec3) (wish_x wish_y : ℤ) (ms : ℕ) (on_ground : Bool) → ActsBelowCap v wish_x wish_y ms on_ground

-- a velocity changes along the wish alone: never against it, and by less than 1 at a right angle to it
pub record ChangesAlong (wish_x wish_y : ℤ) (old new : Vec3) : Type 0 where
  pub along : dot_with_wish old wish_x wish_y ≤ℤ dot_with_wish new wish_x wish_y
  pub across : unsigned_abs (cross_with_wish new wish_x wish_y -ℤ cross_with_wish old wish_x wish_y)
      < wish_length wish_x wish_y

-- acceleration acts along the wish, and the cuts turn a velocity by less than 1
abbrev pub AccelerationActsAlongTheWish : Type 0
AccelerationActsAlongTheWish =
    (v : Vec3) (wish_x wish_y : ℤ) (ms : ℕ) (on_ground : Bool)
    → 0 < wish_length wish_x wish_y
    → ChangesAlong wish_x wish_y v (accelerated_velocity v wish_x wish_y ms on_ground)

-- ---- gravity and jumps
-- gravity takes 204,800 sub-units a second from z in a second, cut toward 0, and keeps x and y
abbrev pub GravityPullsDown : Type 0
GravityPullsDown = (v : Vec3) (ms : ℕ) → AddsUpwards (neg_ℤ (pos (204800 * ms / 1000))) v (gravity_of v ms)

-- a jump adds 69,120 sub-units a second to z, and keeps x and y
abbrev pub JumpsPushUp : Type 0
JumpsPushUp = (v : Vec3) → AddsUpwards (pos 69120) v (velocity_after_jump v)

-- ---- the clamp
-- the clamp keeps each part that is in range, and takes each other part to the end of the range that it is beyond
abbrev pub ClampKeepsWhatIsInRange : Type 0
ClampKeepsWhatIsInRange = (v : Vec3) → IsClamped v (clamped_velocity v)

-- to clamp again changes nothing
abbrev pub ClampIsIdempotent : Type 0
ClampIsIdempotent = (v : Vec3) → clamped_velocity (clamped_velocity v) ≡ clamped_velocity v

-- a move that begins with a record's velocity enters the clamp within 600,000
abbrev pub WhatEntersTheClampIsNear : Type 0
WhatEntersTheClampIsNear =
    (on_ground jump : Bool) (v : Vec3) (wish_x wish_y : ℤ) (ms : ℕ)
    → IsNear greatest_velocity v
    → ms ≤ 50
    → IsNear MAX_UNCLAMPED (velocity_before_clamp on_ground jump v wish_x wish_y ms)
