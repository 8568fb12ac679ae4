-- By how much a slide changes what it is given.
use Rattle.std.specs.Prelude.{◌≡◌, false, ◌≤◌, ◌⊎◌, List, ℤ, pos, ◌≤ℤ◌, unsigned_abs}
use Rattle.arena_geo.specs.declared.vec3.Vec3.{Vec3}
use Rattle.arena_geo.specs.Vectors.{zero_vector}
use Rattle.arena_geo.specs.Bounds.{Bounds}
use Rattle.arena_geo.specs.Boxes.{box_moved_by, is_blocked}

-- on an axis it goes no farther than the whole way, and not the other way
pub record IsPart (whole part : ℤ) : Type 0 where
  pub no_farther : unsigned_abs part ≤ unsigned_abs whole
  pub stays_positive : pos 0 ≤ℤ whole → pos 0 ≤ℤ part
  pub stays_negative : whole ≤ℤ pos 0 → part ≤ℤ pos 0

-- on each axis it goes no farther than the whole way, and not the other way
pub record IsPartOfWay (whole part : Vec3) : Type 0 where
  pub x : IsPart whole.x part.x
  pub y : IsPart whole.y part.y
  pub z : IsPart whole.z part.z

-- each part of the velocity is as it was or 0
pub record KeepsOrStops (old new : Vec3) : Type 0 where
  pub x : (new.x ≡ old.x) ⊎ (new.x ≡ pos 0)
  pub y : (new.y ≡ old.y) ⊎ (new.y ≡ pos 0)
  pub z : (new.z ≡ old.z) ⊎ (new.z ≡ pos 0)

-- the body doesn't move, or no solid overlaps it where it comes to
abbrev pub EndsFree : Bounds → Vec3 → List Bounds → Type 0
EndsFree body shift solids = (shift ≡ zero_vector) ⊎ (is_blocked (box_moved_by body shift) solids ≡ false)
