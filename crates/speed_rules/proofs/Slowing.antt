-- What friction does to a velocity.
use Rattle.std.proofs.Common.{◌≡◌, ℕ, zero, suc, ◌+◌, ◌-◌, ◌*◌, ◌/◌, ◌<◌, ◌≤◌, max, ℤ, pos, [], ◌∷◌, refl, ap, ◌∙◌, arith}
use Rattle.std.specs.Prelude.{unsigned_abs}
use Rattle.std.proofs.Math.Nat.{div-mul-le_self}
use Rattle.std.proofs.lemmas.Nat.{mul-le, le-div}
use Rattle.std.proofs.lemmas.Int.{ints}
use Rattle.std.proofs.lemmas.List.Elements.{All-head, All-tail}
use Rattle.arena_geo.specs.declared.vec3.Vec3.{Vec3}
use Rattle.arena_geo.proofs.Squares.{le_from_square, next_square, root_is_greatest}
use Rattle.arena_geo.proofs.Vectors.{same_parts}
use Rattle.speed_rules.specs.declared.constants.TheConstants.{STOP_SPEED, FRICTION, SECOND}
use Rattle.speed_rules.specs.Measures.{length_of, speed_of, scaled_part}
use Rattle.speed_rules.specs.Rules.{speed_after_friction, friction_at, friction_of}
use Rattle.speed_rules.specs.Changes.{IsShortened, Shortens, IsStill}
use Rattle.speed_rules.specs.Laws.{FrictionShortens, FrictionSlows, FrictionStops}
use Rattle.speed_rules.proofs.Gaining.{above_quotient, le_from_times, legs_le}
use Rattle.speed_rules.proofs.Shares.{abs-scaled, scaled_le_part, scaled_stays_positive, scaled_stays_negative, reaches_x, reaches_y, shares_are_short}

pub slowed_le : (ms speed : ℕ) → speed_after_friction ms speed ≤ speed
slowed_le ms speed = omega arith

is_same : (part : ℤ) → IsShortened part part
is_same part = record { no_longer = omega arith; stays_positive = λ h. h; stays_negative = λ h. h }

share_is_shortened : (part : ℤ) (left whole : ℕ) → 0 < whole → left ≤ whole → IsShortened part (scaled_part part (pos left) whole)
share_is_shortened part left whole some less = record {
  no_longer = scaled_le_part part (pos left) whole some less;
  stays_positive = scaled_stays_positive part left whole;
  stays_negative = scaled_stays_negative part left whole;
}

friction_at_shortens : (speed : ℕ) (v : Vec3) (ms : ℕ) → Shortens v (friction_at speed v ms)
friction_at_shortens zero v ms = record { x = is_same v.x; y = is_same v.y; z = refl }
friction_at_shortens (suc n) v ms = record {
  x = share_is_shortened v.x (speed_after_friction ms (suc n)) (suc n) (omega arith) (slowed_le ms (suc n));
  y = share_is_shortened v.y (speed_after_friction ms (suc n)) (suc n) (omega arith) (slowed_le ms (suc n));
  z = refl;
}

pub friction_shortens : FrictionShortens
friction_shortens v ms = friction_at_shortens (speed_of v) v ms

-- what has the parts of a velocity after friction is that velocity
friction_at_is : (speed : ℕ) (v r : Vec3) (ms : ℕ) → 0 < speed → r.x ≡ scaled_part v.x (pos (speed_after_friction ms speed)) speed → r.y ≡ scaled_part v.y (pos (speed_after_friction ms speed)) speed → r.z ≡ v.z → r ≡ friction_at speed v ms
friction_at_is zero v r ms some x y z = absurd (omega arith)
friction_at_is (suc n) v r ms some x y z = same_parts x y z

pub friction_is : (speed : ℕ) (v r : Vec3) (ms : ℕ) → speed ≡ speed_of v → 0 < speed → r.x ≡ scaled_part v.x (pos (speed_after_friction ms speed)) speed → r.y ≡ scaled_part v.y (pos (speed_after_friction ms speed)) speed → r.z ≡ v.z → r ≡ friction_of v ms
friction_is speed v r ms is some x y z = friction_at_is speed v r ms some x y z ∙ ap (λ n. friction_at n v ms) is

-- a share times the whole is no more than the part times what is left
share_le_part : (part : ℤ) (left whole : ℕ) → unsigned_abs (scaled_part part (pos left) whole) * whole ≤ unsigned_abs part * left
share_le_part part left whole = rw abs-scaled (div-mul-le_self (unsigned_abs part * left) whole)

length_le : (x y : ℤ) (left : ℕ) → unsigned_abs x * unsigned_abs x + unsigned_abs y * unsigned_abs y < (left + 1) * (left + 1) → length_of x y ≤ left
length_le x y left short =
    let square = (root_is_greatest (unsigned_abs x * unsigned_abs x + unsigned_abs y * unsigned_abs y)).square in
    le_from_square _ left (omega (arith, square))

friction_at_slows : (speed : ℕ) (v : Vec3) (ms : ℕ) → unsigned_abs v.x * unsigned_abs v.x + unsigned_abs v.y * unsigned_abs v.y < (speed + 1) * (speed + 1) → speed_of (friction_at speed v ms) ≤ speed_after_friction ms speed
friction_at_slows zero v ms short = omega (arith, length_le v.x v.y 0 short)
friction_at_slows (suc n) v ms short =
    let left = speed_after_friction ms (suc n) in
    length_le (scaled_part v.x (pos left) (suc n)) (scaled_part v.y (pos left) (suc n)) left (shares_are_short (unsigned_abs v.x) (unsigned_abs v.y) left (suc n) _ _ (share_le_part v.x left (suc n)) (share_le_part v.y left (suc n)) short (slowed_le ms (suc n)) (omega arith))

-- friction takes at least 102 in a move
drop_le : (ms speed : ℕ) → 1 ≤ ms → 102 ≤ ms * max speed STOP_SPEED * FRICTION / SECOND
drop_le ms speed least =
    let product : 1 * 25600 ≤ ms * max speed 25600 = mul-le 1 25600 ms (max speed 25600) least (omega arith) in
    le-div 102 _ 1000 (omega arith) (omega arith)

pub slowed_by : (ms speed : ℕ) → 1 ≤ ms → speed_after_friction ms speed ≤ speed - 102
slowed_by ms speed least = omega (arith, drop_le ms speed least)

-- two legs of which each grows by 1 grow by at most 2 together
legs_grow_by_2 : (p q left : ℕ) → p * p + q * q < (left + 1) * (left + 1) → (p + 1) * (p + 1) + (q + 1) * (q + 1) < (left + 3) * (left + 3)
legs_grow_by_2 p q left short =
    let legs : 2 * (p + q) ≤ 3 * (left + 1) = legs_le p q (left + 1) (omega arith) in
    omega arith

-- a share with less than 1 more is all that it is a share of
share_lost : (part : ℤ) (left whole : ℕ) → 0 < whole → unsigned_abs part * left ≤ (unsigned_abs (scaled_part part (pos left) whole) + 1) * whole
share_lost part left whole some = rw abs-scaled (omega (arith, above_quotient (unsigned_abs part * left) whole some))

-- the legs p and q, where a length of two legs x and y is shared out to left, but for less than 1 on each
shares_lose_at_most : (x y left length p q : ℕ) → 0 < length → x * left ≤ (p + 1) * length → y * left ≤ (q + 1) * length → length * length ≤ x * x + y * y → left * left ≤ (p + 1) * (p + 1) + (q + 1) * (q + 1)
shares_lose_at_most x y left length p q some x_share y_share square =
    let x_square : (x * left) * (x * left) ≤ ((p + 1) * length) * ((p + 1) * length) = mul-le _ _ _ _ x_share x_share in
    let y_square : (y * left) * (y * left) ≤ ((q + 1) * length) * ((q + 1) * length) = mul-le _ _ _ _ y_share y_share in
    let all : (length * length) * (left * left) ≤ (x * x + y * y) * (left * left) = mul-le _ _ _ _ square (omega arith) in
    let positive : 1 * 1 ≤ length * length = mul-le 1 1 length length some some in
    le_from_times _ _ (length * length) (omega arith) (omega arith)

length_at_least : (x y : ℤ) (left : ℕ) → left * left ≤ (unsigned_abs x + 1) * (unsigned_abs x + 1) + (unsigned_abs y + 1) * (unsigned_abs y + 1) → left ≤ length_of x y + 2
length_at_least x y left lost =
    let below = next_square _ _ (root_is_greatest (unsigned_abs x * unsigned_abs x + unsigned_abs y * unsigned_abs y)) in
    le_from_square left (length_of x y + 2) (omega (arith, legs_grow_by_2 (unsigned_abs x) (unsigned_abs y) (length_of x y) below))

friction_at_keeps : (speed : ℕ) (v : Vec3) (ms : ℕ) → speed * speed ≤ unsigned_abs v.x * unsigned_abs v.x + unsigned_abs v.y * unsigned_abs v.y → speed_after_friction ms speed ≤ speed_of (friction_at speed v ms) + 2
friction_at_keeps zero v ms most = omega arith
friction_at_keeps (suc n) v ms most =
    let left = speed_after_friction ms (suc n) in
    length_at_least (scaled_part v.x (pos left) (suc n)) (scaled_part v.y (pos left) (suc n)) left (shares_lose_at_most (unsigned_abs v.x) (unsigned_abs v.y) left (suc n) _ _ (omega arith) (share_lost v.x left (suc n) (omega arith)) (share_lost v.y left (suc n) (omega arith)) most)

pub friction_slows : FrictionSlows
friction_slows v ms = record {
  most = friction_at_slows (speed_of v) v ms (next_square _ _ (root_is_greatest _));
  least = friction_at_keeps (speed_of v) v ms (root_is_greatest _).square;
  less = λ least some. omega (arith, slowed_by ms (speed_of v) least);
}

still : (v : Vec3) → speed_of v ≤ 0 → IsStill v
still v none = record {
  x = omega (arith, ints, reaches_x (unsigned_abs v.x) (unsigned_abs v.y));
  y = omega (arith, ints, reaches_y (unsigned_abs v.x) (unsigned_abs v.y));
}

pub friction_stops : FrictionStops
friction_stops v [] each slow = still v (omega arith)
friction_stops v (ms ∷ times) each slow =
    let least : 1 ≤ ms = All-head (λ t. 1 ≤ t) ms times each in
    let slower : speed_of (friction_of v ms) ≤ speed_of v - 102 = omega (arith, (friction_slows v ms).most, slowed_by ms (speed_of v) least) in
    friction_stops (friction_of v ms) times (All-tail (λ t. 1 ≤ t) ms times each) (omega arith)
