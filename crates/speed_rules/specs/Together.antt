-- What the rules give together, in the order of a move, in numbers.
use Rattle.std.specs.Prelude.{◌≡◌, ℕ, ◌+◌, ◌-◌, ◌*◌, ◌/◌, ◌<◌, ◌≤◌, min, max, Bool, true, false}
use Rattle.std.specs.Prelude.{ℤ, pos, neg_ℤ, ◌+ℤ◌, ◌-ℤ◌, ◌*ℤ◌, unsigned_abs, int_div}
use Rattle.std.specs.Int.{int_min, int_max}
use Rattle.arena_geo.specs.declared.vec3.Vec3.{Vec3}
use Rattle.arena_geo.specs.Vectors.{IsNear}
use Rattle.arena_geo.specs.Roots.{IsRoot}
use Rattle.speed_rules.specs.Rules.{velocity_of}
use Rattle.speed_rules.specs.Wishes.{wish_length, part_along_wish}
use Rattle.speed_rules.specs.Laws.{StopsAtCap, ReachesCap, ChangesAlong}

-- ---- up and down
-- how much of z gravity takes in so many milliseconds
abbrev pub fall_in : ℕ → ℤ
fall_in ms = pos (204800 * ms / 1000)

-- in the air z falls, down to -512,000
abbrev pub z_after_fall : ℤ → ℕ → ℤ
z_after_fall z ms = int_max (neg_ℤ (pos 512000)) (z -ℤ fall_in ms)

-- a jump adds 69,120 to z, less the fall, up to 512,000
abbrev pub z_after_jump : ℤ → ℕ → ℤ
z_after_jump z ms = int_min (z +ℤ pos 69120 -ℤ fall_in ms) (pos 512000)

-- whatever a player wishes, its z falls in the air, where the jump button does nothing; a jump launches it; and z stays
-- where it walks
pub record HasKnownZ (v : Vec3) (wish_x wish_y : ℤ) (ms : ℕ) : Type 0 where
  pub falling : (jump : Bool) → (velocity_of false jump v wish_x wish_y ms).z ≡ z_after_fall v.z ms
  pub jumping : (velocity_of true true v wish_x wish_y ms).z ≡ z_after_jump v.z ms
  pub walking : (velocity_of true false v wish_x wish_y ms).z ≡ v.z

-- so it is with each velocity of a record
abbrev pub HeightsAreKnown : Type 0
HeightsAreKnown =
    (v : Vec3) (wish_x wish_y : ℤ) (ms : ℕ) → IsNear 512000 v → ms ≤ 50 → HasKnownZ v wish_x wish_y ms

-- ---- over the ground, without a wish
-- x and y stay
pub record KeepsCourse (old new : Vec3) : Type 0 where
  pub x : new.x ≡ old.x
  pub y : new.y ≡ old.y

-- a player in the air that wishes nothing keeps its course, and so does one that jumps: no friction acts on it
pub record FliesOn (v : Vec3) (ms : ℕ) : Type 0 where
  pub falling : (jump : Bool) → KeepsCourse v (velocity_of false jump v (pos 0) (pos 0) ms)
  pub jumping : KeepsCourse v (velocity_of true true v (pos 0) (pos 0) ms)

-- so it is with each velocity of a record
abbrev pub FliersKeepTheirCourse : Type 0
FliersKeepTheirCourse = (v : Vec3) (ms : ℕ) → IsNear 512000 v → FliesOn v ms

-- of this speed friction takes as much as of one of 25,600 at least, four times in a second
abbrev pub speed_left : ℕ → ℕ → ℕ
speed_left speed ms = speed - ms * max speed 25600 * 4 / 1000

-- of a velocity with this speed over the ground x and y keep their share of what is left, cut toward 0; without speed
-- nothing changes
pub record IsSlowed (speed ms : ℕ) (old new : Vec3) : Type 0 where
  pub x : 0 < speed → new.x ≡ int_div (old.x *ℤ pos (speed_left speed ms)) (pos speed)
  pub y : 0 < speed → new.y ≡ int_div (old.y *ℤ pos (speed_left speed ms)) (pos speed)
  pub z : new.z ≡ old.z
  pub still : speed ≡ 0 → new ≡ old

-- a player that walks without a wish is slowed by friction alone
abbrev pub WalkersAreSlowed : Type 0
WalkersAreSlowed =
    (v : Vec3) (speed ms : ℕ) → IsNear 512000 v
    → IsRoot (unsigned_abs v.x * unsigned_abs v.x + unsigned_abs v.y * unsigned_abs v.y) speed
    → IsSlowed speed ms v (velocity_of true false v (pos 0) (pos 0) ms)

-- ---- over the ground, with a wish
-- so slow over the ground that no gain of a move comes to the greatest velocity
pub record HasRoomToGain (v : Vec3) : Type 0 where
  pub x : unsigned_abs v.x ≤ 471040
  pub y : unsigned_abs v.y ≤ 471040

-- what so many milliseconds may add along a wish of this length
abbrev pub gain_in : ℕ → ℕ → ℕ
gain_in len ms = 10 * min len 81920 * ms / 1000

-- a wish of this length leads a velocity from old to new: its part along the wish to the cap, or as near to it as the
-- time allows, and along the wish alone
pub record IsLed (cap len ms : ℕ) (wish_x wish_y : ℤ) (old new : Vec3) : Type 0 where
  pub stops : StopsAtCap cap (gain_in len ms) (part_along_wish old wish_x wish_y) (part_along_wish new wish_x wish_y)
  pub reaches : 0 < len
      → ReachesCap cap (gain_in len ms) (part_along_wish old wish_x wish_y) (part_along_wish new wish_x wish_y)
  pub along : 0 < len → ChangesAlong wish_x wish_y old new

-- a wish leads a player to its own length, which is 81,920 at most where the player walks, from what friction leaves,
-- and 7,680 at most where it jumps or is in the air
pub record FollowsWish (v : Vec3) (wish_x wish_y : ℤ) (ms : ℕ) : Type 0 where
  pub walking : IsLed (min (wish_length wish_x wish_y) 81920) (wish_length wish_x wish_y) ms wish_x wish_y
      (velocity_of true false v (pos 0) (pos 0) ms)
      (velocity_of true false v wish_x wish_y ms)
  pub jumping : IsLed (min (wish_length wish_x wish_y) 7680) (wish_length wish_x wish_y) ms wish_x wish_y
      v
      (velocity_of true true v wish_x wish_y ms)
  pub falling : (jump : Bool)
      → IsLed (min (wish_length wish_x wish_y) 7680) (wish_length wish_x wish_y) ms wish_x wish_y
      v
      (velocity_of false jump v wish_x wish_y ms)

-- so it is with each velocity that has room to gain
abbrev pub WishesAreFollowed : Type 0
WishesAreFollowed =
    (v : Vec3) (wish_x wish_y : ℤ) (ms : ℕ) → HasRoomToGain v → ms ≤ 50 → FollowsWish v wish_x wish_y ms
