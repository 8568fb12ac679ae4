-- How far a velocity may be from 0 after each rule.
use Rattle.std.proofs.Common.{ℕ, ◌+◌, ◌*◌, ◌/◌, ◌≤◌, true, false, ℤ, arith}
use Rattle.std.specs.Prelude.{unsigned_abs}
use Rattle.std.proofs.lemmas.Int.{ints}
use Rattle.arena_geo.specs.declared.vec3.Vec3.{Vec3}
use Rattle.arena_geo.specs.Vectors.{IsNear}
use Rattle.speed_rules.specs.Rules.{velocity_after_jump, friction_of, accelerated_velocity, gravity_of}
use Rattle.speed_rules.specs.Changes.{Shortens, AddsAtMost}
use Rattle.speed_rules.specs.Laws.{WhatEntersTheClampIsNear}
use Rattle.speed_rules.proofs.Slowing.{friction_shortens}
use Rattle.speed_rules.proofs.Pushing.{acceleration_is_bounded}

-- x and y are at most flat from 0, and z at most tall
pub record IsWithin (flat tall : ℕ) (v : Vec3) : Type 0 where
  pub x : unsigned_abs v.x ≤ flat
  pub y : unsigned_abs v.y ≤ flat
  pub z : unsigned_abs v.z ≤ tall

pub IsWithin-near : (far : ℕ) (v : Vec3) → IsNear far v → IsWithin far far v
IsWithin-near far v near = record { x = near.x; y = near.y; z = near.z }

pub IsNear-within : (flat tall far : ℕ) (v : Vec3) → flat ≤ far → tall ≤ far → IsWithin flat tall v → IsNear far v
IsNear-within flat tall far v flat_less tall_less within = record { x = omega (arith, within.x); y = omega (arith, within.y); z = omega (arith, within.z) }

pub IsWithin-shortened : (flat tall : ℕ) (old new : Vec3) → IsWithin flat tall old → Shortens old new → IsWithin flat tall new
IsWithin-shortened flat tall old new within shortens = record {
  x = omega (arith, shortens.x.no_longer, within.x);
  y = omega (arith, shortens.y.no_longer, within.y);
  z = rw shortens.z within.z;
}

pub IsWithin-added : (flat tall most : ℕ) (old new : Vec3) → IsWithin flat tall old → AddsAtMost most old new → IsWithin (flat + most) tall new
IsWithin-added flat tall most old new within adds = record { x = omega (arith, ints); y = omega (arith, ints); z = rw adds.z within.z }

pub IsWithin-jumped : (flat tall : ℕ) (v : Vec3) → IsWithin flat tall v → IsWithin flat (tall + 69120) (velocity_after_jump v)
IsWithin-jumped flat tall v within = record { x = within.x; y = within.y; z = omega (arith, ints) }

pub IsWithin-fallen : (flat tall ms : ℕ) (v : Vec3) → IsWithin flat tall v → IsWithin flat (tall + 204800 * ms / 1000) (gravity_of v ms)
IsWithin-fallen flat tall ms v within = record { x = within.x; y = within.y; z = omega (arith, ints) }

-- a velocity that is accelerated in the air and falls
in_the_air : (flat tall : ℕ) (v : Vec3) (wish_x wish_y : ℤ) (ms : ℕ) → IsWithin flat tall v → flat + 10 * 81920 * ms / 1000 ≤ 600000 → tall + 204800 * ms / 1000 ≤ 600000 → IsNear 600000 (gravity_of (accelerated_velocity v wish_x wish_y ms false) ms)
in_the_air flat tall v wish_x wish_y ms within flat_less tall_less =
    let w = accelerated_velocity v wish_x wish_y ms false in
    let added = IsWithin-added flat tall _ v w within (acceleration_is_bounded v wish_x wish_y ms false) in
    IsNear-within _ _ 600000 (gravity_of w ms) flat_less tall_less (IsWithin-fallen _ tall ms w added)

pub what_enters_the_clamp_is_near : WhatEntersTheClampIsNear
what_enters_the_clamp_is_near true false v wish_x wish_y ms near brief =
    let w = friction_of v ms in
    let slower = IsWithin-shortened 512000 512000 v w (IsWithin-near 512000 v near) (friction_shortens v ms) in
    IsNear-within _ _ 600000 (accelerated_velocity w wish_x wish_y ms true) (omega arith) (omega arith) (IsWithin-added 512000 512000 _ w _ slower (acceleration_is_bounded w wish_x wish_y ms true))
what_enters_the_clamp_is_near true true v wish_x wish_y ms near brief =
    in_the_air 512000 _ (velocity_after_jump v) wish_x wish_y ms (IsWithin-jumped 512000 512000 v (IsWithin-near 512000 v near)) (omega arith) (omega arith)
what_enters_the_clamp_is_near false jump v wish_x wish_y ms near brief =
    in_the_air 512000 512000 v wish_x wish_y ms (IsWithin-near 512000 v near) (omega arith) (omega arith)
