-- How fast a record is after a move.
use Rattle.std.proofs.Common.{◌≡◌, ℕ, ◌≤◌, Bool, true, false, ◌⊎◌, inl, inr, List, ℤ, pos, unsigned_abs, if◌then◌else◌, subst, sym, arith}
use Rattle.arena_geo.specs.declared.vec3.Vec3.{Vec3}
use Rattle.arena_geo.specs.Vectors.{IsNear}
use Rattle.arena_geo.specs.Bounds.{Bounds}
use Rattle.speed_rules.specs.Rules.{clamped_velocity, velocity_before_clamp}
use Rattle.slide_move.specs.Changes.{KeepsOrStops}
use Rattle.slide_move.proofs.Slides.{vel_kept}
use Rattle.player_move.specs.declared.walk.Walked.{Walked}
use Rattle.player_move.specs.Velocities.{jumps, walks, velocity_after}
use Rattle.player_move.specs.Walks.{level, ground_of, stairs_of, walk_of}
use Rattle.player_move.specs.Moves.{move_of}
use Rattle.player_move.specs.Laws.{MoveStaysSlow}
use Rattle.player_move.proofs.Speeds.{cut_le}

clamped_is_near : (v : Vec3) → IsNear 512000 (clamped_velocity v)
clamped_is_near v = record {
  x = omega (arith, cut_le v.x (unsigned_abs v.x) (omega arith));
  y = omega (arith, cut_le v.y (unsigned_abs v.y) (omega arith));
  z = omega (arith, cut_le v.z (unsigned_abs v.z) (omega arith));
}

part_is_near : (old new : ℤ) → (new ≡ old) ⊎ (new ≡ pos 0) → unsigned_abs old ≤ 512000 → unsigned_abs new ≤ 512000
part_is_near old new (inl same) near = let P : ℤ → Type 0 = λ z. unsigned_abs z ≤ 512000 in subst P (sym same) near
part_is_near old new (inr none) near = let P : ℤ → Type 0 = λ z. unsigned_abs z ≤ 512000 in let zero_near : P (pos 0) = omega arith in subst P (sym none) zero_near

kept_is_near : (old new : Vec3) → KeepsOrStops old new → IsNear 512000 old → IsNear 512000 new
kept_is_near old new kept near = record {
  x = part_is_near old.x new.x kept.x near.x;
  y = part_is_near old.y new.y kept.y near.y;
  z = part_is_near old.z new.z kept.z near.z;
}

level_is_near : (v : Vec3) → IsNear 512000 v → IsNear 512000 (level v)
level_is_near v near = record { x = near.x; y = near.y; z = omega arith }

stairs_are_slow : (body : Bounds) (vel : Vec3) (ms : ℕ) (solids : List Bounds) → IsNear 512000 vel → IsNear 512000 (stairs_of body vel ms solids).vel
unfolding stairs_of
stairs_are_slow body vel ms solids near = level_is_near _ (kept_is_near (level vel) _ (vel_kept _ (level vel) ms solids) (level_is_near vel near))

either_is_slow : (b : Bool) (stairs plain : Walked) → IsNear 512000 stairs.vel → IsNear 512000 plain.vel → IsNear 512000 (if b then stairs else plain).vel
either_is_slow true stairs plain one other = one
either_is_slow false stairs plain one other = other

walk_is_slow : (walks : Bool) (body : Bounds) (vel : Vec3) (ms : ℕ) (solids : List Bounds) → IsNear 512000 vel → IsNear 512000 (walk_of walks body vel ms solids).vel
unfolding walk_of
walk_is_slow walks body vel ms solids near =
    either_is_slow _ (stairs_of body vel ms solids) _ (stairs_are_slow body vel ms solids near) (kept_is_near vel _ (vel_kept body vel ms solids) near)

pub move_stays_slow : MoveStaysSlow
unfolding move_of velocity_after
move_stays_slow me cmd solids =
    let on_ground = ground_of _ solids in
    walk_is_slow (walks on_ground cmd) _ (velocity_after on_ground me cmd) cmd.ms solids (clamped_is_near (velocity_before_clamp on_ground (jumps cmd) me.vel cmd.wish_x cmd.wish_y cmd.ms))
