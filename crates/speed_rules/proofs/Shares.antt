-- Lengths and shares.
use Rattle.std.proofs.Common.{◌≡◌, ℕ, zero, suc, ◌+◌, ◌*◌, ◌/◌, ◌^◌, ◌<◌, ◌≤◌, ℤ, pos, negsuc, neg_ℤ, ◌+ℤ◌, ◌*ℤ◌, ◌≤ℤ◌, ap, ◌∙◌, arith}
use Rattle.std.specs.Prelude.{unsigned_abs, int_div, FitsSigned}
use Rattle.std.specs.Int.{w32, w64, cast_signed, cast_unsigned}
use Rattle.std.proofs.lemmas.Nat.{mul-le, div_below}
use Rattle.std.proofs.Math.Nat.{zero-div, div-le_self}
use Rattle.std.proofs.lemmas.Int.{ints, to_z-of_z, unsigned_abs-mul, quot_is, quot_fits, fits_signed_from_abs}
use Rattle.arena_geo.specs.Roots.{IsRoot, root_of}
use Rattle.arena_geo.proofs.Squares.{le_from_square, root_is_greatest}
use Rattle.arena_geo.proofs.Quotients.{abs-int_div}
use Rattle.speed_rules.specs.Measures.{scaled_part}

pub abs-scaled : (part by : ℤ) (whole : ℕ) → unsigned_abs (scaled_part part by whole) ≡ unsigned_abs part * unsigned_abs by / whole
abs-scaled part by whole = abs-int_div (part *ℤ by) whole ∙ ap (λ n. n / whole) (unsigned_abs-mul part by)

-- a share of what is shared out is no more than it
share_le : (part by whole : ℕ) → 0 < whole → part ≤ whole → part * by / whole ≤ by
share_le part by whole some is_part = omega (arith, div_below (part * by) whole (by + 1) some (omega (arith, mul-le part by whole by is_part (omega arith))))

pub scaled_le_by : (part by : ℤ) (whole : ℕ) → 0 < whole → unsigned_abs part ≤ whole → unsigned_abs (scaled_part part by whole) ≤ unsigned_abs by
scaled_le_by part by whole some is_part = rw abs-scaled (share_le _ _ whole some is_part)

pub scaled_le_part : (part by : ℤ) (whole : ℕ) → 0 < whole → unsigned_abs by ≤ whole → unsigned_abs (scaled_part part by whole) ≤ unsigned_abs part
scaled_le_part part by whole some is_part =
    let turned : unsigned_abs by * unsigned_abs part / whole ≤ unsigned_abs part = share_le _ _ whole some is_part in
    let same : unsigned_abs part * unsigned_abs by ≡ unsigned_abs by * unsigned_abs part = omega arith in
    rw (abs-scaled, same) turned

int_div_stays_positive : (z : ℤ) (whole : ℕ) → pos 0 ≤ℤ z → pos 0 ≤ℤ int_div z (pos whole)
int_div_stays_positive (pos n) whole positive = omega (arith, ints)
int_div_stays_positive (negsuc n) whole positive = absurd (omega (arith, ints))

neg_is_negative : (n : ℕ) → neg_ℤ (pos n) ≤ℤ pos 0
neg_is_negative n = omega (arith, ints)

int_div_stays_negative : (z : ℤ) (whole : ℕ) → z ≤ℤ pos 0 → int_div z (pos whole) ≤ℤ pos 0
int_div_stays_negative (pos zero) whole negative = rw zero-div (omega (arith, ints))
int_div_stays_negative (pos (suc n)) whole negative = absurd (omega (arith, ints))
int_div_stays_negative (negsuc n) whole negative = neg_is_negative (suc n / whole)

times_stays_positive : (part : ℤ) (by : ℕ) → pos 0 ≤ℤ part → pos 0 ≤ℤ (part *ℤ pos by)
times_stays_positive (pos n) by positive = omega (arith, ints)
times_stays_positive (negsuc n) by positive = absurd (omega (arith, ints))

times_stays_negative : (part : ℤ) (by : ℕ) → part ≤ℤ pos 0 → (part *ℤ pos by) ≤ℤ pos 0
times_stays_negative (pos zero) by negative = omega (arith, ints)
times_stays_negative (pos (suc n)) by negative = absurd (omega (arith, ints))
times_stays_negative (negsuc n) by negative = neg_is_negative (suc n * by)

pub scaled_stays_positive : (part : ℤ) (by whole : ℕ) → pos 0 ≤ℤ part → pos 0 ≤ℤ scaled_part part (pos by) whole
scaled_stays_positive part by whole positive = int_div_stays_positive _ whole (times_stays_positive part by positive)

pub scaled_stays_negative : (part : ℤ) (by whole : ℕ) → part ≤ℤ pos 0 → scaled_part part (pos by) whole ≤ℤ pos 0
scaled_stays_negative part by whole negative = int_div_stays_negative _ whole (times_stays_negative part by negative)

-- ---- what the code computes, in its types

pos_fits : (n : ℕ) → n < 2 ^ 32 → FitsSigned w64 (pos n)
pos_fits n small = record { sfits = omega arith }

pub quotient_fits : (a : ℤ) (d : ℕ) → FitsSigned w64 a → 0 < d → FitsSigned w64 (int_div a (pos d))
quotient_fits a d fits some = quot_fits w64 a (pos d) fits (omega (arith, ints))

-- the code's quotient
pub quotient_is : (a q : ℤ) (d : ℕ) → FitsSigned w64 a → 0 < d → d < 2 ^ 32 → q ≡ pos d → cast_signed w64 (cast_unsigned w64 (int_div (cast_signed w64 (cast_unsigned w64 a)) (cast_signed w64 (cast_unsigned w64 q)))) ≡ int_div a (pos d)
quotient_is a q d fits some small is = rw is (quot_is w64 a (pos d) fits (pos_fits d small) (quotient_fits a d fits some))

-- the code may divide
pub can_divide : (a q : ℤ) (d : ℕ) → FitsSigned w64 a → 0 < d → d < 2 ^ 32 → q ≡ pos d → (0 < cast_unsigned w64 q) × FitsSigned w64 (int_div (cast_signed w64 (cast_unsigned w64 a)) (cast_signed w64 (cast_unsigned w64 q)))
can_divide a q d fits some small is =
    let divisor_fits : FitsSigned w64 (pos d) = pos_fits d small in
    rw (is, to_z-of_z w64 a fits, to_z-of_z w64 (pos d) divisor_fits) (some, quotient_fits a d fits some)

pub quotient_le : (a : ℤ) (d : ℕ) → unsigned_abs (int_div a (pos d)) ≤ unsigned_abs a
quotient_le a d = rw abs-int_div (omega (arith, div-le_self (unsigned_abs a) d))

-- a share of a positive number fits where the number does
pub scaled_fits : (part by : ℤ) (whole : ℕ) → 0 < whole → unsigned_abs part ≤ whole → pos 0 ≤ℤ by → FitsSigned w32 by → FitsSigned w32 (scaled_part part by whole)
scaled_fits part by whole some is_part positive fits =
    let least : unsigned_abs (scaled_part part by whole) ≤ unsigned_abs by = scaled_le_by part by whole some is_part in
    let small : unsigned_abs by < 2 ^ 31 = omega (arith, ints) in
    fits_signed_from_abs w32 _ (omega arith)

-- a leg of a right angle is no longer than the length
pub reaches_x : (x y : ℕ) → x ≤ root_of (x * x + y * y)
reaches_x x y = (root_is_greatest (x * x + y * y)).greatest x (omega arith)

pub reaches_y : (x y : ℕ) → y ≤ root_of (x * x + y * y)
reaches_y x y = (root_is_greatest (x * x + y * y)).greatest y (omega arith)

-- the length is no more than the two legs
pub root_le_legs : (x y m n r : ℕ) → m ≡ x * x → n ≡ y * y → IsRoot (m + n) r → r ≤ x + y
root_le_legs x y m n r x_is y_is root = le_from_square r (x + y) (omega (arith, root.square))

pub below_from_times : (a b whole : ℕ) → a * whole < b * whole → a < b
below_from_times a b whole below = grind (arith, mul-le)

-- where two legs are shared out the length is no more than its share
pub shares_are_short : (x y left length p q : ℕ) → p * length ≤ x * left → q * length ≤ y * left → x * x + y * y < (length + 1) * (length + 1) → left ≤ length → 0 < length → p * p + q * q < (left + 1) * (left + 1)
shares_are_short x y left length p q x_share y_share short less some =
    let x_square : (p * length) * (p * length) ≤ (x * left) * (x * left) = mul-le _ _ _ _ x_share x_share in
    let y_square : (q * length) * (q * length) ≤ (y * left) * (y * left) = mul-le _ _ _ _ y_share y_share in
    let most : x * x + y * y ≤ length * length + 2 * length = omega arith in
    let all : (x * x + y * y) * (left * left) ≤ (length * length + 2 * length) * (left * left) = mul-le _ _ _ _ most (omega arith) in
    let rest : (2 * length * left) * left ≤ (2 * length * left) * length = mul-le _ _ _ _ (omega arith) less in
    let square : 1 * 1 ≤ length * length = mul-le 1 1 length length some some in
    below_from_times _ _ (length * length) (omega arith)

sum_is_small : (m n : ℤ) → unsigned_abs m ≤ 1288490188800000 → unsigned_abs n ≤ 1288490188800000 → unsigned_abs (m +ℤ n) < 2 ^ 62
sum_is_small m n one other = omega (arith, ints)

-- a velocity within 600,000 times an i32
pub dot_is_small : (a x b y : ℤ) → unsigned_abs a ≤ 600000 → unsigned_abs b ≤ 600000 → FitsSigned w32 x → FitsSigned w32 y → unsigned_abs (a *ℤ x +ℤ b *ℤ y) < 2 ^ 62
dot_is_small a x b y a_near b_near x_fits y_fits =
    let x_small : unsigned_abs x ≤ 2147483648 = omega (arith, ints) in
    let y_small : unsigned_abs y ≤ 2147483648 = omega (arith, ints) in
    let one : unsigned_abs a * unsigned_abs x ≤ 600000 * 2147483648 = mul-le _ _ _ _ a_near x_small in
    let other : unsigned_abs b * unsigned_abs y ≤ 600000 * 2147483648 = mul-le _ _ _ _ b_near y_small in
    let one_is : unsigned_abs (a *ℤ x) ≤ 1288490188800000 = omega (arith, unsigned_abs-mul a x) in
    let other_is : unsigned_abs (b *ℤ y) ≤ 1288490188800000 = omega (arith, unsigned_abs-mul b y) in
    sum_is_small (a *ℤ x) (b *ℤ y) one_is other_is
