-- A shot goes where the wish points.
use Rattle.std.proofs.Common.{◌≡◌, ℕ, ◌+◌, ◌*◌, ◌/◌, ◌<◌, ◌≤◌, ℤ, pos, neg_ℤ, ◌*ℤ◌, ◌≤ℤ◌, ◌<ℤ◌, refl, sym, ap, ◌∙◌, arith}
use Rattle.std.specs.Prelude.{unsigned_abs}
use Rattle.std.proofs.Math.Nat.{zero-div, div-mul-le_self, mul-div_cancel_left}
use Rattle.std.proofs.lemmas.Nat.{mul-le}
use Rattle.std.proofs.lemmas.Int.{ints}
use Rattle.arena_geo.specs.Roots.{IsRoot}
use Rattle.arena_geo.proofs.Squares.{IsRoot-next_square, same_root, next_square}
use Rattle.arena_geo.proofs.Vectors.{same_parts}
use Rattle.speed_rules.specs.Wishes.{wish_length}
use Rattle.speed_rules.proofs.Shares.{abs-scaled, scaled_stays_positive, scaled_stays_negative}
use Rattle.speed_rules.proofs.Gaining.{le_from_times, above_quotient}
use Rattle.shot_rules.specs.Targets.{range_on, way_along}
use Rattle.shot_rules.specs.Laws.{IsAlongWish, ShotsFollowTheWish}
use Rattle.shot_rules.proofs.Conditions.{in_sub_units, IsRoot-wish_length, wish_is_long}

-- ---- one axis

-- how far a shot goes there, without its side
pub abs-range_on : (wish : ℤ) (len : ℕ) → unsigned_abs (range_on wish len) ≡ unsigned_abs wish * 256 * 65536 / len
abs-range_on wish len = abs-scaled (wish *ℤ pos 256) (pos 65536) len ∙ ap (λ (n : ℕ). n * 65536 / len) (in_sub_units wish)

range_up : (wish : ℤ) (len : ℕ) → pos 0 ≤ℤ wish → pos 0 ≤ℤ range_on wish len
range_up wish len up = scaled_stays_positive (wish *ℤ pos 256) 65536 len (omega (arith, ints))

range_down : (wish : ℤ) (len : ℕ) → wish ≤ℤ pos 0 → range_on wish len ≤ℤ pos 0
range_down wish len down = scaled_stays_negative (wish *ℤ pos 256) 65536 len (omega (arith, ints))

-- what is cut off is less than 1
range_most : (m len : ℕ) → m * 256 * 65536 / len * len ≤ m * 256 * 65536
range_most m len = div-mul-le_self (m * 256 * 65536) len

range_least : (m len : ℕ) → 0 < len → m * 256 * 65536 ≤ (m * 256 * 65536 / len + 1) * len
range_least m len some = omega (arith, above_quotient (m * 256 * 65536) len some)

-- ---- two axes, in whole numbers

-- shares of two parts have the ratio of the parts, but for what is cut off
shares_are_straight : (m n by len p q : ℕ) → 0 < len → p * len ≤ m * by → n * by ≤ (q + 1) * len → p * n ≤ (q + 1) * m
shares_are_straight m n by len p q some most least =
    let one : (p * len) * n ≤ (m * by) * n = mul-le _ _ _ _ most (omega arith) in
    let other : (n * by) * m ≤ ((q + 1) * len) * m = mul-le _ _ _ _ least (omega arith) in
    le_from_times _ _ len some (omega (arith, one, other))

-- with what is cut off they are as long as what is shared out
shares_are_long : (x y by len p q : ℕ) → 0 < len → len * len ≤ x * x + y * y → x * by ≤ (p + 1) * len → y * by ≤ (q + 1) * len
    → by * by ≤ (p + 1) * (p + 1) + (q + 1) * (q + 1)
shares_are_long x y by len p q some square x_least y_least =
    let all : (by * by) * (len * len) ≤ (by * by) * (x * x + y * y) = mul-le _ _ _ _ (omega arith) square in
    let x_square : (x * by) * (x * by) ≤ ((p + 1) * len) * ((p + 1) * len) = mul-le _ _ _ _ x_least x_least in
    let y_square : (y * by) * (y * by) ≤ ((q + 1) * len) * ((q + 1) * len) = mul-le _ _ _ _ y_least y_least in
    let more : 1 * 1 ≤ len * len = mul-le 1 1 len len some some in
    le_from_times _ _ (len * len) (omega (arith, more)) (omega (arith, all, x_square, y_square))

-- and hardly longer, where the parts aren't short
shares_are_no_longer : (x y len p q : ℕ) → 256 ≤ len → x * x + y * y < (len + 1) * (len + 1) → p * len ≤ x * 65536 → q * len ≤ y * 65536
    → p * p + q * q ≤ 65792 * 65792
shares_are_no_longer x y len p q long next x_most y_most =
    let x_square : (p * len) * (p * len) ≤ (x * 65536) * (x * 65536) = mul-le _ _ _ _ x_most x_most in
    let y_square : (q * len) * (q * len) ≤ (y * 65536) * (y * 65536) = mul-le _ _ _ _ y_most y_most in
    let far : 256 * len ≤ len * len = mul-le _ _ _ _ long (omega arith) in
    le_from_times _ _ (len * len) (omega (arith, far)) (omega (arith, far, next, x_square, y_square))

-- ---- along any wish

module _ (wish_x wish_y : ℤ) (some : 0 < unsigned_abs wish_x + unsigned_abs wish_y) where
  abbrev m : ℕ
  m = unsigned_abs wish_x

  abbrev n : ℕ
  n = unsigned_abs wish_y

  abbrev len : ℕ
  len = wish_length wish_x wish_y

  has_length : 0 < len
  has_length = omega (arith, wish_is_long wish_x wish_y some)

  root : IsRoot ((m * 256) * (m * 256) + (n * 256) * (n * 256)) len
  root = IsRoot-wish_length wish_x wish_y

  pub along : IsAlongWish wish_x wish_y (way_along wish_x wish_y)
  along = record {
    up_x = range_up wish_x len;
    down_x = range_down wish_x len;
    up_y = range_up wish_y len;
    down_y = range_down wish_y len;
    level = refl;
    straight_x = rw (abs-range_on wish_x len, abs-range_on wish_y len)
        (shares_are_straight m n (256 * 65536) len _ _ has_length (omega (arith, range_most m len)) (omega (arith, range_least n len has_length)));
    straight_y = rw (abs-range_on wish_x len, abs-range_on wish_y len)
        (shares_are_straight n m (256 * 65536) len _ _ has_length (omega (arith, range_most n len)) (omega (arith, range_least m len has_length)));
    least = rw (abs-range_on wish_x len, abs-range_on wish_y len)
        (shares_are_long (m * 256) (n * 256) 65536 len _ _ has_length root.square (range_least m len has_length) (range_least n len has_length));
    most = rw (abs-range_on wish_x len, abs-range_on wish_y len)
        (shares_are_no_longer (m * 256) (n * 256) len _ _ (wish_is_long wish_x wish_y some) (next_square _ len root) (range_most m len) (range_most n len));
  }

-- ---- along an axis

length_on_x : (wish : ℤ) → wish_length wish (pos 0) ≡ unsigned_abs wish * 256
length_on_x wish =
    let n = unsigned_abs wish * 256 in
    same_root (n * n + (0 * 256) * (0 * 256)) (wish_length wish (pos 0)) n (IsRoot-wish_length wish (pos 0)) (IsRoot-next_square _ n (omega arith) (omega arith))

length_on_y : (wish : ℤ) → wish_length (pos 0) wish ≡ unsigned_abs wish * 256
length_on_y wish =
    let n = unsigned_abs wish * 256 in
    same_root ((0 * 256) * (0 * 256) + n * n) (wish_length (pos 0) wish) n (IsRoot-wish_length (pos 0) wish) (IsRoot-next_square _ n (omega arith) (omega arith))

whole_range : (wish : ℤ) (len : ℕ) → len ≡ unsigned_abs wish * 256 → 0 < len → unsigned_abs (range_on wish len) ≡ 65536
whole_range wish len is some =
    abs-range_on wish len ∙ ap (λ (n : ℕ). n * 65536 / len) (sym is) ∙ mul-div_cancel_left 65536 some

from_up : (z : ℤ) (n : ℕ) → pos 0 ≤ℤ z → unsigned_abs z ≡ n → z ≡ pos n
from_up z n up is = omega (arith, ints)

from_down : (z : ℤ) (n : ℕ) → z ≤ℤ pos 0 → unsigned_abs z ≡ n → z ≡ neg_ℤ (pos n)
from_down z n down is = omega (arith, ints)

whole_up : (wish : ℤ) (len : ℕ) → len ≡ unsigned_abs wish * 256 → pos 0 <ℤ wish → range_on wish len ≡ pos 65536
whole_up wish len is up = from_up (range_on wish len) 65536 (range_up wish len (omega (arith, ints))) (whole_range wish len is (omega (arith, ints)))

whole_down : (wish : ℤ) (len : ℕ) → len ≡ unsigned_abs wish * 256 → wish <ℤ pos 0 → range_on wish len ≡ neg_ℤ (pos 65536)
whole_down wish len is down = from_down (range_on wish len) 65536 (range_down wish len (omega (arith, ints))) (whole_range wish len is (omega (arith, ints)))

none_without : (len : ℕ) → range_on (pos 0) len ≡ pos 0
none_without len = ap pos (zero-div len)

pub follow_the_wish : ShotsFollowTheWish
follow_the_wish = record {
  box = λ origin. refl;
  up_x = λ wish up. same_parts (whole_up wish _ (length_on_x wish) up) (none_without (wish_length wish (pos 0))) refl;
  down_x = λ wish down. same_parts (whole_down wish _ (length_on_x wish) down) (none_without (wish_length wish (pos 0))) refl;
  up_y = λ wish up. same_parts (none_without (wish_length (pos 0) wish)) (whole_up wish _ (length_on_y wish) up) refl;
  down_y = λ wish down. same_parts (none_without (wish_length (pos 0) wish)) (whole_down wish _ (length_on_y wish) down) refl;
  slanting = along;
}
