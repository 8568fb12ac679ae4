-- What the rules give together, in the order of a move.
use Rattle.std.proofs.Common.{◌≡◌, ℕ, zero, suc, ◌*◌, ◌/◌, ◌≤◌, min, Bool, true, false, ℤ, pos, ◌+ℤ◌, ◌-ℤ◌, refl, sym, ap, subst, ◌∙◌, arith}
use Rattle.std.specs.Prelude.{unsigned_abs}
use Rattle.std.proofs.lemmas.Int.{ints, clamps}
use Rattle.arena_geo.specs.declared.vec3.Vec3.{Vec3}
use Rattle.arena_geo.specs.Vectors.{IsNear}
use Rattle.arena_geo.specs.Roots.{root_of}
use Rattle.arena_geo.proofs.Squares.{root_is_greatest, same_root}
use Rattle.speed_rules.specs.Measures.{speed_of}
use Rattle.speed_rules.specs.Rules.{velocity_after_jump, friction_of, friction_at, accelerated_velocity, cut, velocity_of}
use Rattle.speed_rules.specs.Wishes.{wish_length, part_along_wish, wish_cap, wish_gain}
use Rattle.speed_rules.specs.Changes.{Shortens}
use Rattle.speed_rules.specs.Together.{z_after_fall, z_after_jump, HeightsAreKnown, FliersKeepTheirCourse, IsSlowed, WalkersAreSlowed, HasRoomToGain, IsLed, WishesAreFollowed}
use Rattle.speed_rules.specs.Laws.{StopsAtCap, ReachesCap, ChangesAlong}
use Rattle.speed_rules.proofs.Slowing.{friction_shortens}
use Rattle.speed_rules.proofs.Pushing.{acceleration_is_bounded}
use Rattle.speed_rules.proofs.Capping.{acceleration_stops_at_the_cap, acceleration_reaches_the_cap}
use Rattle.speed_rules.proofs.Crossing.{acceleration_acts_along_the_wish}

-- ---- the clamp
-- a part in range is kept
cut_kept : (part : ℤ) → unsigned_abs part ≤ 512000 → cut part ≡ part
cut_kept part small = omega (arith, ints, clamps)

-- a height that falls is cut below alone
cut_fallen : (z : ℤ) (ms : ℕ) → unsigned_abs z ≤ 512000 → cut (z -ℤ pos (204800 * ms / 1000)) ≡ z_after_fall z ms
cut_fallen z ms small = omega (arith, ints, clamps)

-- a height that is launched is cut above alone
cut_launched : (z : ℤ) (ms : ℕ) → unsigned_abs z ≤ 512000 → ms ≤ 50 → cut (z +ℤ pos 69120 -ℤ pos (204800 * ms / 1000)) ≡ z_after_jump z ms
cut_launched z ms small brief = omega (arith, ints, clamps)

-- ---- up and down
pub heights_are_known : HeightsAreKnown
heights_are_known v wish_x wish_y ms near brief =
    record {
      falling = λ jump. ap (λ (z : ℤ). cut (z -ℤ pos (204800 * ms / 1000))) (acceleration_is_bounded v wish_x wish_y ms false).z ∙ cut_fallen v.z ms near.z;
      jumping = ap (λ (z : ℤ). cut (z -ℤ pos (204800 * ms / 1000))) (acceleration_is_bounded (velocity_after_jump v) wish_x wish_y ms false).z ∙ cut_launched v.z ms near.z brief;
      walking = ap cut ((acceleration_is_bounded (friction_of v ms) wish_x wish_y ms true).z ∙ (friction_shortens v ms).z) ∙ cut_kept v.z near.z;
    }

-- ---- without a wish

pub fliers_keep_their_course : FliersKeepTheirCourse
unfolding root_of
fliers_keep_their_course v ms near =
    record {
      falling = λ jump. record { x = cut_kept v.x near.x; y = cut_kept v.y near.y };
      jumping = record { x = cut_kept v.x near.x; y = cut_kept v.y near.y };
    }

-- the whole velocity in range is kept
all_kept : (v : Vec3) → IsNear 512000 v → record { x = cut v.x; y = cut v.y; z = cut v.z } ≡ v
all_kept v near = λ i. record { x = cut_kept v.x near.x i; y = cut_kept v.y near.y i; z = cut_kept v.z near.z i }

shortened_is_near : (old new : Vec3) → IsNear 512000 old → Shortens old new → IsNear 512000 new
shortened_is_near old new near shortens = record {
  x = omega (arith, shortens.x.no_longer, near.x);
  y = omega (arith, shortens.y.no_longer, near.y);
  z = omega (arith, ints, shortens.z, near.z);
}

-- a walk without a wish is what friction leaves
walks_slowed : (v : Vec3) (ms : ℕ) → IsNear 512000 v → velocity_of true false v (pos 0) (pos 0) ms ≡ friction_of v ms
unfolding root_of
walks_slowed v ms near = all_kept (friction_of v ms) (shortened_is_near v (friction_of v ms) near (friction_shortens v ms))

slowed_at : (speed : ℕ) (v : Vec3) (ms : ℕ) → IsSlowed speed ms v (friction_at speed v ms)
slowed_at zero v ms = record { x = λ some. absurd (omega arith); y = λ some. absurd (omega arith); z = refl; still = λ none. refl }
slowed_at (suc n) v ms = record { x = λ some. refl; y = λ some. refl; z = refl; still = λ none. absurd (omega arith) }

pub walkers_are_slowed : WalkersAreSlowed
walkers_are_slowed v speed ms near root =
    subst (IsSlowed speed ms v) (ap (λ (n : ℕ). friction_at n v ms) (same_root _ speed (speed_of v) root (root_is_greatest _)) ∙ sym (walks_slowed v ms near)) (slowed_at speed v ms)

-- ---- with a wish
-- two velocities have the same course
same_part : (v w : Vec3) (wish_x wish_y : ℤ) → w.x ≡ v.x → w.y ≡ v.y → part_along_wish w wish_x wish_y ≡ part_along_wish v wish_x wish_y
same_part v w wish_x wish_y x_is y_is = rw (x_is, y_is) refl

-- a part that a gain changed is in range
cut_added : (old new : ℤ) (most : ℕ) → unsigned_abs old ≤ 471040 → most ≤ 40960 → unsigned_abs (new -ℤ old) ≤ most → cut new ≡ new
cut_added old new most small few adds = omega (arith, ints, clamps)

pub most_gained : (ms : ℕ) → ms ≤ 50 → 10 * 81920 * ms / 1000 ≤ 40960
most_gained ms brief = omega arith

changes_along : (old v w : Vec3) (wish_x wish_y : ℤ) → w.x ≡ v.x → w.y ≡ v.y → ChangesAlong wish_x wish_y old v → ChangesAlong wish_x wish_y old w
changes_along old v w wish_x wish_y x_is y_is changes =
    record { along = rw (x_is, y_is) changes.along; across = rw (x_is, y_is) changes.across }

-- the velocity w has the course of v with its gain, so its wish leads it to this cap
led : (v w : Vec3) (wish_x wish_y : ℤ) (ms cap : ℕ) (on_ground : Bool) → ms ≤ 50 → wish_cap on_ground wish_x wish_y ≡ cap
    → w.x ≡ (accelerated_velocity v wish_x wish_y ms on_ground).x → w.y ≡ (accelerated_velocity v wish_x wish_y ms on_ground).y
    → IsLed cap (wish_length wish_x wish_y) ms wish_x wish_y v w
led v w wish_x wish_y ms cap on_ground brief cap_is x_is y_is =
    let a = accelerated_velocity v wish_x wish_y ms on_ground in
    let old = part_along_wish v wish_x wish_y in
    let gain = wish_gain wish_x wish_y ms in
    let same : part_along_wish a wish_x wish_y ≡ part_along_wish w wish_x wish_y = sym (same_part a w wish_x wish_y x_is y_is) in
    record {
      stops = subst (λ (new : ℤ). StopsAtCap cap gain old new) same (subst (λ (c : ℕ). StopsAtCap c gain old (part_along_wish a wish_x wish_y)) cap_is (acceleration_stops_at_the_cap v wish_x wish_y ms on_ground brief));
      reaches = λ some. subst (λ (new : ℤ). ReachesCap cap gain old new) same (subst (λ (c : ℕ). ReachesCap c gain old (part_along_wish a wish_x wish_y)) cap_is (acceleration_reaches_the_cap v wish_x wish_y ms on_ground some));
      along = λ some. changes_along v a w wish_x wish_y x_is y_is (acceleration_acts_along_the_wish v wish_x wish_y ms on_ground some);
    }

-- so is a velocity that is v with its gain, but for z, after the clamp
led_in_range : (v : Vec3) (wish_x wish_y : ℤ) (ms cap : ℕ) (on_ground : Bool) (z : ℤ) → HasRoomToGain v → ms ≤ 50 → wish_cap on_ground wish_x wish_y ≡ cap
    → IsLed cap (wish_length wish_x wish_y) ms wish_x wish_y v
    (record { x = cut (accelerated_velocity v wish_x wish_y ms on_ground).x; y = cut (accelerated_velocity v wish_x wish_y ms on_ground).y; z = z })
led_in_range v wish_x wish_y ms cap on_ground z room brief cap_is =
    let a = accelerated_velocity v wish_x wish_y ms on_ground in
    let adds = acceleration_is_bounded v wish_x wish_y ms on_ground in
    led v (record { x = cut a.x; y = cut a.y; z = z }) wish_x wish_y ms cap on_ground brief cap_is
    (cut_added v.x _ _ room.x (most_gained ms brief) adds.x) (cut_added v.y _ _ room.y (most_gained ms brief) adds.y)

slowed_has_room : (old new : Vec3) → HasRoomToGain old → Shortens old new → HasRoomToGain new
slowed_has_room old new room shortens = record { x = omega (arith, shortens.x.no_longer, room.x); y = omega (arith, shortens.y.no_longer, room.y) }

in_the_air : (wish_x wish_y : ℤ) → wish_cap false wish_x wish_y ≡ min (wish_length wish_x wish_y) 7680
in_the_air wish_x wish_y = omega arith

-- two velocities that have the same course are led alike
led_from : (v w new : Vec3) (cap len ms : ℕ) (wish_x wish_y : ℤ) → w.x ≡ v.x → w.y ≡ v.y → IsLed cap len ms wish_x wish_y v new → IsLed cap len ms wish_x wish_y w new
led_from v w new cap len ms wish_x wish_y x_is y_is led =
    record {
      stops = rw (x_is, y_is) led.stops;
      reaches = λ some. rw (x_is, y_is) (led.reaches some);
      along = λ some. record { along = rw (x_is, y_is) (led.along some).along; across = rw (x_is, y_is) (led.along some).across };
    }

-- what friction leaves has the course of a walk without a wish
unwished_led : (v new : Vec3) (cap len ms : ℕ) (wish_x wish_y : ℤ) → HasRoomToGain v → IsLed cap len ms wish_x wish_y (friction_of v ms) new
    → IsLed cap len ms wish_x wish_y (velocity_of true false v (pos 0) (pos 0) ms) new
unfolding root_of
unwished_led v new cap len ms wish_x wish_y room led =
    let slowed = slowed_has_room v (friction_of v ms) room (friction_shortens v ms) in
    led_from (friction_of v ms) (velocity_of true false v (pos 0) (pos 0) ms) new cap len ms wish_x wish_y (cut_kept _ (omega (arith, slowed.x))) (cut_kept _ (omega (arith, slowed.y))) led

pub wishes_are_followed : WishesAreFollowed
wishes_are_followed v wish_x wish_y ms room brief =
    let len = wish_length wish_x wish_y in
    record {
      walking = unwished_led v (velocity_of true false v wish_x wish_y ms) (min len 81920) len ms wish_x wish_y room
          (led_in_range (friction_of v ms) wish_x wish_y ms (min len 81920) true (velocity_of true false v wish_x wish_y ms).z (slowed_has_room v (friction_of v ms) room (friction_shortens v ms)) brief refl);
      jumping = led_from (velocity_after_jump v) v (velocity_of true true v wish_x wish_y ms) (min len 7680) len ms wish_x wish_y refl refl
          (led_in_range (velocity_after_jump v) wish_x wish_y ms (min len 7680) false (velocity_of true true v wish_x wish_y ms).z (record { x = room.x; y = room.y }) brief (in_the_air wish_x wish_y));
      falling = λ jump. led_in_range v wish_x wish_y ms (min len 7680) false (velocity_of false jump v wish_x wish_y ms).z room brief (in_the_air wish_x wish_y);
    }
