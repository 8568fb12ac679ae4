-- By how much the rules change a velocity.
use Rattle.std.specs.Prelude.{◌≡◌, ℕ, ◌≤◌, ℤ, pos, neg_ℤ, ◌+ℤ◌, ◌-ℤ◌, ◌≤ℤ◌, unsigned_abs}
use Rattle.arena_geo.specs.declared.vec3.Vec3.{Vec3}
use Rattle.speed_rules.specs.declared.constants.TheConstants.{MAX_VELOCITY}
use Rattle.speed_rules.specs.Measures.{speed_of, greatest_velocity}

-- a part is no longer than it was, and its sign isn't turned
pub record IsShortened (old new : ℤ) : Type 0 where
  pub no_longer : unsigned_abs new ≤ unsigned_abs old
  pub stays_positive : pos 0 ≤ℤ old → pos 0 ≤ℤ new
  pub stays_negative : old ≤ℤ pos 0 → new ≤ℤ pos 0

-- x and y are shortened, and z is the same
pub record Shortens (old new : Vec3) : Type 0 where
  pub x : IsShortened old.x new.x
  pub y : IsShortened old.y new.y
  pub z : new.z ≡ old.z

-- x and y differ from what they were by at most this much, and z is the same
pub record AddsAtMost (most : ℕ) (old new : Vec3) : Type 0 where
  pub x : unsigned_abs (new.x -ℤ old.x) ≤ most
  pub y : unsigned_abs (new.y -ℤ old.y) ≤ most
  pub z : new.z ≡ old.z

-- this much is added to z, and x and y are the same
pub record AddsUpwards (added : ℤ) (old new : Vec3) : Type 0 where
  pub x : new.x ≡ old.x
  pub y : new.y ≡ old.y
  pub z : new.z ≡ old.z +ℤ added

-- no speed over the ground is left
pub record IsStill (v : Vec3) : Type 0 where
  pub x : v.x ≡ pos 0
  pub y : v.y ≡ pos 0

-- what is 0 stays 0, z stays as it is, and so does a velocity without speed over the ground
pub record KeepsZeros (old new : Vec3) : Type 0 where
  pub x : old.x ≡ pos 0 → new.x ≡ pos 0
  pub y : old.y ≡ pos 0 → new.y ≡ pos 0
  pub z : new.z ≡ old.z
  pub still : speed_of old ≡ 0 → new ≡ old

-- a part in range is kept, and one beyond an end of the range goes to that end
pub record IsCut (old new : ℤ) : Type 0 where
  pub kept : unsigned_abs old ≤ greatest_velocity → new ≡ old
  pub high : MAX_VELOCITY ≤ℤ old → new ≡ MAX_VELOCITY
  pub low : old ≤ℤ neg_ℤ MAX_VELOCITY → new ≡ neg_ℤ MAX_VELOCITY

-- each part is cut alone
pub record IsClamped (old new : Vec3) : Type 0 where
  pub x : IsCut old.x new.x
  pub y : IsCut old.y new.y
  pub z : IsCut old.z new.z
