-- What acceleration does to a velocity.
use Rattle.std.proofs.Common.{◌≡◌, ℕ, zero, suc, ◌*◌, ◌/◌, ◌<◌, ◌≤◌, min, Bool, true, false, if◌then◌else◌, ℤ, pos, ◌*ℤ◌, ◌≤ℤ◌, ◌<ℤ◌, refl, arith}
use Rattle.std.specs.Prelude.{unsigned_abs, int_lt}
use Rattle.std.specs.Int.{int_min}
use Rattle.std.proofs.lemmas.Nat.{mul-le}
use Rattle.std.proofs.lemmas.Int.{ints, clamps}
use Rattle.arena_geo.specs.declared.vec3.Vec3.{Vec3}
use Rattle.speed_rules.specs.declared.constants.TheConstants.{UNIT}
use Rattle.speed_rules.specs.Measures.{length_of, scaled_part}
use Rattle.speed_rules.specs.Rules.{missing_of, greatest_gain, velocity_with_gain, accelerated_toward}
use Rattle.speed_rules.specs.Changes.{AddsAtMost}
use Rattle.speed_rules.specs.Laws.{AccelerationIsBounded}
use Rattle.speed_rules.proofs.Shares.{scaled_le_by, reaches_x, reaches_y}

pub greatest_gain_le : (len ms : ℕ) → greatest_gain len ms ≤ 10 * 81920 * ms / 1000
greatest_gain_le len ms =
    let product : min len 81920 * ms ≤ 81920 * ms = mul-le _ _ _ _ (omega arith) (omega arith) in
    omega arith

adds_nothing : (v : Vec3) (most : ℕ) → AddsAtMost most v v
adds_nothing v most = record { x = omega (arith, ints); y = omega (arith, ints); z = refl }

-- a gain along a wish adds no more than itself on an axis
pushed_adds : (v : Vec3) (x y gain : ℤ) (len most : ℕ) → 0 < len → unsigned_abs x ≤ len → unsigned_abs y ≤ len → unsigned_abs gain ≤ most → AddsAtMost most v (velocity_with_gain v x y len gain)
pushed_adds v x y gain len most some x_part y_part small =
    let x_gain : unsigned_abs (scaled_part x gain len) ≤ unsigned_abs gain = scaled_le_by x gain len some x_part in
    let y_gain : unsigned_abs (scaled_part y gain len) ≤ unsigned_abs gain = scaled_le_by y gain len some y_part in
    record { x = omega (arith, ints); y = omega (arith, ints); z = refl }

-- the lesser of what is allowed and of what is missing lies between 0 and what is allowed
pub gain_le : (allowed : ℕ) (missing : ℤ) → pos 0 <ℤ missing → unsigned_abs (int_min (pos allowed) missing) ≤ allowed
gain_le allowed missing some = omega (arith, ints, clamps)

choice_adds : (b : Bool) (v : Vec3) (x y missing : ℤ) (len allowed most : ℕ) → int_lt (pos 0) missing ≡ b → 0 < len → unsigned_abs x ≤ len → unsigned_abs y ≤ len → allowed ≤ most → AddsAtMost most v (if b then velocity_with_gain v x y len (int_min (pos allowed) missing) else v)
choice_adds true v x y missing len allowed most is some x_part y_part small =
    let positive : pos 0 <ℤ missing = omega (arith, ints) in
    pushed_adds v x y (int_min (pos allowed) missing) len most some x_part y_part (omega (arith, gain_le allowed missing positive))
choice_adds false v x y missing len allowed most is some x_part y_part small = adds_nothing v most

toward_adds : (len : ℕ) (v : Vec3) (x y : ℤ) (ms : ℕ) (on_ground : Bool) → unsigned_abs x ≤ len → unsigned_abs y ≤ len → AddsAtMost (10 * 81920 * ms / 1000) v (accelerated_toward v x y len ms on_ground)
toward_adds zero v x y ms on_ground x_part y_part = adds_nothing v _
toward_adds (suc n) v x y ms on_ground x_part y_part =
    choice_adds _ v x y (missing_of v x y (suc n) on_ground) (suc n) (greatest_gain (suc n) ms) _ refl (omega arith) x_part y_part (greatest_gain_le (suc n) ms)

pub acceleration_is_bounded : AccelerationIsBounded
acceleration_is_bounded v wish_x wish_y ms on_ground =
    let x = wish_x *ℤ UNIT in
    let y = wish_y *ℤ UNIT in
    toward_adds (length_of x y) v x y ms on_ground (reaches_x (unsigned_abs x) (unsigned_abs y)) (reaches_y (unsigned_abs x) (unsigned_abs y))

choice_of_none : (b : Bool) (v w : Vec3) (missing : ℤ) → int_lt (pos 0) missing ≡ b → missing ≤ℤ pos 0 → v ≡ (if b then w else v)
choice_of_none true v w missing is none = absurd (omega (arith, ints))
choice_of_none false v w missing is none = refl

choice_of_some : (b : Bool) (v w : Vec3) (missing : ℤ) → int_lt (pos 0) missing ≡ b → pos 0 <ℤ missing → w ≡ (if b then w else v)
choice_of_some true v w missing is some = refl
choice_of_some false v w missing is some = absurd (omega (arith, ints))

-- nothing is added where nothing is missing
pub nothing_missing : (len : ℕ) (v : Vec3) (x y : ℤ) (ms : ℕ) (on_ground : Bool) → missing_of v x y len on_ground ≤ℤ pos 0 → v ≡ accelerated_toward v x y len ms on_ground
nothing_missing zero v x y ms on_ground none = refl
nothing_missing (suc n) v x y ms on_ground none = choice_of_none _ v _ (missing_of v x y (suc n) on_ground) refl none

-- what is missing is added, up to what is allowed
pub something_missing : (len : ℕ) (v : Vec3) (x y : ℤ) (ms : ℕ) (on_ground : Bool) → 0 < len → pos 0 <ℤ missing_of v x y len on_ground → velocity_with_gain v x y len (int_min (pos (greatest_gain len ms)) (missing_of v x y len on_ground)) ≡ accelerated_toward v x y len ms on_ground
something_missing zero v x y ms on_ground positive some = absurd (omega arith)
something_missing (suc n) v x y ms on_ground positive some = choice_of_some _ v _ (missing_of v x y (suc n) on_ground) refl some
