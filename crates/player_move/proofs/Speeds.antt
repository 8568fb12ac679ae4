-- How fast a move slides at most.
use Rattle.std.proofs.Common.{ℕ, ◌+◌, ◌≤◌, min, Bool, true, false, ℤ, unsigned_abs, arith}
use Rattle.std.proofs.lemmas.Int.{ints, clamps}
use Rattle.arena_geo.specs.declared.vec3.Vec3.{Vec3}
use Rattle.entity_recs.specs.declared.rec.Rec.{Rec}
use Rattle.player_move.specs.Intents.{Intent}
use Rattle.speed_rules.specs.Rules.{velocity_after_jump, friction_of, gravity_of, cut, velocity_before_clamp}
use Rattle.speed_rules.specs.Changes.{Shortens, AddsAtMost}
use Rattle.speed_rules.proofs.Slowing.{friction_shortens}
use Rattle.speed_rules.proofs.Pushing.{acceleration_is_bounded}
use Rattle.speed_rules.proofs.Together.{most_gained}
use Rattle.player_move.specs.Velocities.{jumps, velocity_after}

-- each part is at most so much farther from 0
pub record IsFaster (old : Vec3) (by : ℕ) (new : Vec3) : Type 0 where
  pub x : unsigned_abs new.x ≤ unsigned_abs old.x + by
  pub y : unsigned_abs new.y ≤ unsigned_abs old.y + by
  pub z : unsigned_abs new.z ≤ unsigned_abs old.z + by

faster_walking : (v slower new : Vec3) (most : ℕ) → most ≤ 40960 → Shortens v slower → AddsAtMost most slower new → IsFaster v 81920 new
faster_walking v slower new most few shortens adds = record {
  x = omega (arith, ints, shortens.x.no_longer, adds.x);
  y = omega (arith, ints, shortens.y.no_longer, adds.y);
  z = omega (arith, ints, shortens.z, adds.z);
}

-- z may have grown by a jump before
record IsLaunched (v launched : Vec3) : Type 0 where
  x : unsigned_abs launched.x ≤ unsigned_abs v.x
  y : unsigned_abs launched.y ≤ unsigned_abs v.y
  z : unsigned_abs launched.z ≤ unsigned_abs v.z + 69120

faster_flying : (v launched new : Vec3) (most ms : ℕ) → most ≤ 40960 → ms ≤ 50 → IsLaunched v launched → AddsAtMost most launched new → IsFaster v 81920 (gravity_of new ms)
faster_flying v launched new most ms few brief from adds = record {
  x = omega (arith, ints, from.x, adds.x);
  y = omega (arith, ints, from.y, adds.y);
  z = omega (arith, ints, from.z, adds.z);
}

-- no rule but the clamp changes a part of the velocity by more than the greatest wish
pub unclamped_is_faster : (on_ground jump : Bool) (v : Vec3) (wish_x wish_y : ℤ) (ms : ℕ) → ms ≤ 50 → IsFaster v 81920 (velocity_before_clamp on_ground jump v wish_x wish_y ms)
unclamped_is_faster true false v wish_x wish_y ms brief =
    let slower = friction_of v ms in
    faster_walking v slower _ _ (most_gained ms brief) (friction_shortens v ms) (acceleration_is_bounded slower wish_x wish_y ms true)
unclamped_is_faster true true v wish_x wish_y ms brief =
    faster_flying v (velocity_after_jump v) _ _ ms (most_gained ms brief) brief
    (record { x = omega arith; y = omega arith; z = omega (arith, ints) })
    (acceleration_is_bounded (velocity_after_jump v) wish_x wish_y ms false)
unclamped_is_faster false jump v wish_x wish_y ms brief =
    faster_flying v v _ _ ms (most_gained ms brief) brief
    (record { x = omega arith; y = omega arith; z = omega arith })
    (acceleration_is_bounded v wish_x wish_y ms false)

pub cut_le : (part : ℤ) (n : ℕ) → unsigned_abs part ≤ n → unsigned_abs (cut part) ≤ min 512000 n
cut_le part n small = omega (arith, ints, clamps)

-- each part of the velocity of a move is at most this far from 0
pub record IsFast (old new : Vec3) : Type 0 where
  pub x : unsigned_abs new.x ≤ min 512000 (unsigned_abs old.x + 81920)
  pub y : unsigned_abs new.y ≤ min 512000 (unsigned_abs old.y + 81920)
  pub z : unsigned_abs new.z ≤ min 512000 (unsigned_abs old.z + 81920)

pub velocity_is_fast : (on_ground : Bool) (me : Rec) (cmd : Intent) → cmd.ms ≤ 50 → IsFast me.vel (velocity_after on_ground me cmd)
unfolding velocity_after
velocity_is_fast on_ground me cmd brief =
    let entering = velocity_before_clamp on_ground (jumps cmd) me.vel cmd.wish_x cmd.wish_y cmd.ms in
    let faster = unclamped_is_faster on_ground (jumps cmd) me.vel cmd.wish_x cmd.wish_y cmd.ms brief in
    record {
      x = cut_le entering.x _ faster.x;
      y = cut_le entering.y _ faster.y;
      z = cut_le entering.z _ faster.z;
    }
