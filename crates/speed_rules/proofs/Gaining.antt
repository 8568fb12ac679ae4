-- How far a velocity with a gain comes along a wish, in whole numbers.
use Rattle.std.proofs.Common.{◌≡◌, ℕ, suc, ◌+◌, ◌-◌, ◌*◌, ◌/◌, ◌<◌, ◌≤◌, ℤ, pos, negsuc, neg_ℤ, ◌+ℤ◌, ◌≤ℤ◌, arith, inl, inr}
use Rattle.std.specs.Prelude.{int_div}
use Rattle.std.proofs.Math.Nat.{div-mul-le_self}
use Rattle.std.proofs.lemmas.Bool.{cases_lt}
use Rattle.std.proofs.lemmas.Int.{ints}
use Rattle.arena_geo.proofs.Squares.{le_from_square}
use Rattle.arena_geo.proofs.Quotients.{int_div-neg}
use Rattle.speed_rules.proofs.Shares.{below_from_times}

-- ---- products
pub le_from_times : (a b whole : ℕ) → 0 < whole → a * whole ≤ b * whole → a ≤ b
le_from_times a b whole some most =
    let below : a * whole < (b + 1) * whole = omega arith in
    omega (arith, below_from_times a (b + 1) whole below)

twice_product_by : (x y d : ℕ) → y ≡ x + d → 2 * (x * y) ≤ x * x + y * y
twice_product_by x y d is = rw is (omega arith)

twice_product_le : (x y : ℕ) → 2 * (x * y) ≤ x * x + y * y
twice_product_le x y =
    elim (cases_lt x y) [
      | inl less ↦ twice_product_by x y (y - x) (omega arith)
      | inr more ↦ omega (arith, twice_product_by y x (x - y) (omega arith))
    ]

-- two legs are together at most half as long again as a length that is near enough to theirs
pub legs_le : (x y length : ℕ) → 8 * (x * x + y * y) ≤ 9 * (length * length) → 2 * (x + y) ≤ 3 * length
legs_le x y length short =
    let product = twice_product_le x y in
    le_from_square (2 * (x + y)) (3 * length) (omega arith)

-- ---- quotients
pub above_quotient : (n whole : ℕ) → 0 < whole → n < (n / whole + 1) * whole
above_quotient n whole some = omega arith

-- a sum with at most gain + 1 times the whole has at most gain + 1 more wholes
sum_has_at_most : (n sum gain whole : ℕ) → 0 < whole → sum ≤ (gain + 1) * whole → (n + sum) / whole ≤ n / whole + (gain + 1)
sum_has_at_most n sum gain whole some most =
    let below : ((n + sum) / whole) * whole < (n / whole + (gain + 1) + 1) * whole = omega (arith, div-mul-le_self (n + sum) whole, above_quotient n whole some) in
    omega (arith, below_from_times _ _ whole below)

-- a sum with at least gain times the whole but for one and a half has at least gain more wholes but for 3
sum_has_at_least : (n sum gain whole : ℕ) → 0 < whole → 2 * gain * whole ≤ 2 * sum + 3 * whole → n / whole + gain ≤ (n + sum) / whole + 3
sum_has_at_least n sum gain whole some least =
    let below : (2 * (n / whole) + 2 * gain) * whole < (2 * ((n + sum) / whole) + 5) * whole = omega (arith, div-mul-le_self n whole, above_quotient (n + sum) whole some) in
    omega (arith, below_from_times _ _ whole below)

-- the same where the sum has two parts
parts_have_at_most : (m n gain whole : ℕ) → 0 < whole → m + n ≤ (gain + 1) * whole → n / whole + m / whole ≤ gain + 1
parts_have_at_most m n gain whole some most =
    le_from_times _ _ whole some (omega (arith, div-mul-le_self m whole, div-mul-le_self n whole))

parts_have_at_least : (m n gain whole : ℕ) → 0 < whole → 2 * gain * whole ≤ 2 * (m + n) + 3 * whole → gain ≤ n / whole + m / whole + 3
parts_have_at_least m n gain whole some least =
    let below : (2 * gain) * whole < (2 * (n / whole + m / whole) + 7) * whole = omega (arith, above_quotient m whole some, above_quotient n whole some) in
    omega (arith, below_from_times _ _ whole below)

-- ---- quotients cut toward 0
-- where the sum has about gain wholes a quotient grows by about that gain
pub record Gains (gain whole sum : ℕ) (old new : ℤ) : Type 0 where
  pub most : sum ≤ (gain + 1) * whole → new ≤ℤ (old +ℤ pos (gain + 1))
  pub least : 2 * gain * whole ≤ 2 * sum + 3 * whole → (old +ℤ pos gain) ≤ℤ (new +ℤ pos 3)

gains_above : (n sum gain whole : ℕ) → 0 < whole → Gains gain whole sum (pos (n / whole)) (pos ((n + sum) / whole))
gains_above n sum gain whole some = record {
  most = λ about. omega (arith, ints, sum_has_at_most n sum gain whole some about);
  least = λ about. omega (arith, ints, sum_has_at_least n sum gain whole some about);
}

gains_below : (n sum gain whole : ℕ) → 0 < whole → Gains gain whole sum (neg_ℤ (pos ((n + sum) / whole))) (neg_ℤ (pos (n / whole)))
gains_below n sum gain whole some = record {
  most = λ about. omega (arith, ints, sum_has_at_most n sum gain whole some about);
  least = λ about. omega (arith, ints, sum_has_at_least n sum gain whole some about);
}

gains_across : (m n gain whole : ℕ) → 0 < whole → Gains gain whole (m + n) (neg_ℤ (pos (m / whole))) (pos (n / whole))
gains_across m n gain whole some = record {
  most = λ about. omega (arith, ints, parts_have_at_most m n gain whole some about);
  least = λ about. omega (arith, ints, parts_have_at_least m n gain whole some about);
}

still_below : (n m sum : ℕ) → m ≡ n + sum → neg_ℤ (pos m) +ℤ pos sum ≡ neg_ℤ (pos n)
still_below n m sum is = omega (arith, ints)

across_zero : (n m sum : ℕ) → sum ≡ m + n → neg_ℤ (pos m) +ℤ pos sum ≡ pos n
across_zero n m sum is = omega (arith, ints)

abbrev GainsFrom : ℤ → ℕ → ℕ → ℕ → Type 0
GainsFrom old sum gain whole = Gains gain whole sum (int_div old (pos whole)) (int_div (old +ℤ pos sum) (pos whole))

gains_to_below : (n m sum gain whole : ℕ) → m ≡ n + sum → 0 < whole → GainsFrom (neg_ℤ (pos m)) sum gain whole
gains_to_below n m sum gain whole is some =
    rw (still_below n m sum is, int_div-neg m whole, int_div-neg n whole, is) (gains_below n sum gain whole some)

gains_to_above : (n m sum gain whole : ℕ) → sum ≡ m + n → 0 < whole → GainsFrom (neg_ℤ (pos m)) sum gain whole
gains_to_above n m sum gain whole is some =
    rw (across_zero n m sum is, int_div-neg m whole, is) (gains_across m n gain whole some)

gains_from_below : (m sum gain whole : ℕ) → 0 < whole → GainsFrom (neg_ℤ (pos m)) sum gain whole
gains_from_below m sum gain whole some =
    elim (cases_lt m sum) [
      | inl less ↦ gains_to_above (sum - m) m sum gain whole (omega arith) some
      | inr more ↦ gains_to_below (m - sum) m sum gain whole (omega arith) some
    ]

pub quotient_gains : (old : ℤ) (sum gain whole : ℕ) → 0 < whole → Gains gain whole sum (int_div old (pos whole)) (int_div (old +ℤ pos sum) (pos whole))
quotient_gains (pos n) sum gain whole some = gains_above n sum gain whole some
quotient_gains (negsuc n) sum gain whole some = gains_from_below (suc n) sum gain whole some
