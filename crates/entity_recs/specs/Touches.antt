-- What a player touches, in numbers.
use Rattle.std.specs.Prelude.{◌≡◌, ◌⊎◌, ◌↔◌, true, ℤ, pos, ◌+ℤ◌, ◌-ℤ◌, ◌≤ℤ◌}
use Rattle.arena_geo.specs.declared.vec3.Vec3.{Vec3}
use Rattle.arena_geo.specs.Bounds.{Bounds}
use Rattle.entity_recs.specs.declared.kind.Kind.TheVariants.{Player, Ammo, Gem, Teleporter, Goal}
use Rattle.entity_recs.specs.declared.rec.Rec.{Rec}
use Rattle.entity_recs.specs.Records.{IsRecord}
use Rattle.entity_recs.specs.Bodies.{body_of, abs_of, is_touched}

-- a point of the box is at most this much beside the origin on x and y, at most this much below it, and at most this much
-- above it
pub record ComesWithin (beside below above : ℤ) (origin : Vec3) (b : Bounds) : Type 0 where
  pub low_x : b.lo.x ≤ℤ (origin.x +ℤ beside)
  pub high_x : (origin.x -ℤ beside) ≤ℤ b.hi.x
  pub low_y : b.lo.y ≤ℤ (origin.y +ℤ beside)
  pub high_y : (origin.y -ℤ beside) ≤ℤ b.hi.y
  pub low_z : b.lo.z ≤ℤ (origin.z +ℤ above)
  pub high_z : (origin.z -ℤ below) ≤ℤ b.hi.z

-- what a player at this origin touches: ammunition or a gem whose body comes within 8,192 beside it, 6,400 below it and
-- 8,448 above it; and a teleporter or a goal whose body comes within 4,608 beside it, 6,656 below it and 8,704 above it
pub data IsInReach (origin : Vec3) (r : Rec) : Type 0 where
  OfItem : (r.kind ≡ Ammo) ⊎ (r.kind ≡ Gem) → ComesWithin (pos 8192) (pos 6400) (pos 8448) origin (body_of r) → IsInReach origin r
  OfPlace : (r.kind ≡ Teleporter) ⊎ (r.kind ≡ Goal) → ComesWithin (pos 4608) (pos 6656) (pos 8704) origin (body_of r)
      → IsInReach origin r

-- the absolute box of a player within its bounds touches exactly the triggers in its reach
abbrev pub TouchesAreKnown : Type 0
TouchesAreKnown = (me r : Rec) → IsRecord me → me.kind ≡ Player → (is_touched (abs_of me) r ≡ true) ↔ IsInReach me.origin r
