-- The rules of a player's velocity, in the order in which a move applies them. Each division cuts toward 0 by itself.
use Rattle.std.specs.Prelude.{ℕ, zero, suc, ◌-◌, ◌*◌, ◌/◌, min, max, Bool, true, false, if◌then◌else◌}
use Rattle.std.specs.Prelude.{ℤ, pos, neg_ℤ, ◌+ℤ◌, ◌-ℤ◌, ◌*ℤ◌, int_lt}
use Rattle.std.specs.Int.{int_min, int_max}
use Rattle.arena_geo.specs.declared.vec3.Vec3.{Vec3}
use Rattle.speed_rules.specs.declared.constants.TheConstants.{UNIT, SECOND, FRICTION, STOP_SPEED, ACCELERATE, MAX_SPEED}
use Rattle.speed_rules.specs.declared.constants.TheConstants.{MAX_AIR_SPEED, GRAVITY, MAX_VELOCITY, JUMP_SPEED}
use Rattle.speed_rules.specs.Measures.{length_of, speed_of, scaled_part, part_along}

-- the velocity of a player that jumps
abbrev pub velocity_after_jump : Vec3 → Vec3
velocity_after_jump v = record { x = v.x; y = v.y; z = v.z +ℤ JUMP_SPEED }

-- the speed that friction leaves: it takes as much of a slow player as of one at the stop speed
abbrev pub speed_after_friction : ℕ → ℕ → ℕ
speed_after_friction ms speed = speed - ms * max speed STOP_SPEED * FRICTION / SECOND

-- friction on a velocity of this speed: x and y keep their share of what is left
abbrev pub friction_at : ℕ → Vec3 → ℕ → Vec3
friction_at zero v ms = v
friction_at (suc n) v ms =
    let left = pos (speed_after_friction ms (suc n)) in
    record { x = scaled_part v.x left (suc n); y = scaled_part v.y left (suc n); z = v.z }

-- the velocity after friction
abbrev pub friction_of : Vec3 → ℕ → Vec3
friction_of v ms = friction_at (speed_of v) v ms

-- the speed along the wish up to which a player is accelerated, on the ground and in the air
abbrev pub cap_of : Bool → ℕ → ℕ
cap_of true wish_speed = wish_speed
cap_of false wish_speed = min wish_speed MAX_AIR_SPEED

-- how far the velocity's part along (x, y), of which len is the length, is below the cap
abbrev pub missing_of : Vec3 → ℤ → ℤ → ℕ → Bool → ℤ
missing_of v x y len on_ground = pos (cap_of on_ground (min len MAX_SPEED)) -ℤ part_along v x y len

-- the speed that the time may add: by the wish itself, in the air too
abbrev pub greatest_gain : ℕ → ℕ → ℕ
greatest_gain len ms = ACCELERATE * min len MAX_SPEED * ms / SECOND

-- v with the gain along (x, y), of which len is the length
abbrev pub velocity_with_gain : Vec3 → ℤ → ℤ → ℕ → ℤ → Vec3
velocity_with_gain v x y len gain = record { x = v.x +ℤ scaled_part x gain len; y = v.y +ℤ scaled_part y gain len; z = v.z }

-- v with the allowed gain along (x, y), or with what is missing where that is less; as it is where nothing is missing
abbrev pub pushed_up_to : Vec3 → ℤ → ℤ → ℕ → ℕ → ℤ → Vec3
pushed_up_to v x y len allowed missing =
    if int_lt (pos 0) missing then velocity_with_gain v x y len (int_min (pos allowed) missing) else v

-- the velocity accelerated toward (x, y), of which len is the length
abbrev pub accelerated_toward : Vec3 → ℤ → ℤ → ℕ → ℕ → Bool → Vec3
accelerated_toward v x y zero ms on_ground = v
accelerated_toward v x y (suc n) ms on_ground =
    pushed_up_to v x y (suc n) (greatest_gain (suc n) ms) (missing_of v x y (suc n) on_ground)

-- the velocity accelerated toward a wish in units
abbrev pub accelerated_velocity : Vec3 → ℤ → ℤ → ℕ → Bool → Vec3
accelerated_velocity v wish_x wish_y ms on_ground =
    accelerated_toward v (wish_x *ℤ UNIT) (wish_y *ℤ UNIT) (length_of (wish_x *ℤ UNIT) (wish_y *ℤ UNIT)) ms on_ground

-- the velocity after falling
abbrev pub gravity_of : Vec3 → ℕ → Vec3
gravity_of v ms = record { x = v.x; y = v.y; z = v.z -ℤ pos (GRAVITY * ms / SECOND) }

-- a part cut to the greatest velocity
abbrev pub cut : ℤ → ℤ
cut part = int_max (neg_ℤ MAX_VELOCITY) (int_min part MAX_VELOCITY)

-- the velocity with each part cut
abbrev pub clamped_velocity : Vec3 → Vec3
clamped_velocity v = record { x = cut v.x; y = cut v.y; z = cut v.z }

-- what enters the clamp of a move that begins on the ground or not, with a jump or not; a jump counts as in the air
abbrev pub velocity_before_clamp : Bool → Bool → Vec3 → ℤ → ℤ → ℕ → Vec3
velocity_before_clamp true false v wish_x wish_y ms = accelerated_velocity (friction_of v ms) wish_x wish_y ms true
velocity_before_clamp true true v wish_x wish_y ms = gravity_of (accelerated_velocity (velocity_after_jump v) wish_x wish_y ms false) ms
velocity_before_clamp false jump v wish_x wish_y ms = gravity_of (accelerated_velocity v wish_x wish_y ms false) ms

-- the velocity with which a move slides
abbrev pub velocity_of : Bool → Bool → Vec3 → ℤ → ℤ → ℕ → Vec3
velocity_of on_ground jump v wish_x wish_y ms = clamped_velocity (velocity_before_clamp on_ground jump v wish_x wish_y ms)
