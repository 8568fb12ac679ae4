-- From which step on a part has come so far.
use Rattle.std.proofs.Common.{◌≡◌, ℕ, ◌+◌, ◌*◌, ◌/◌, ◌<◌, ◌≤◌, nat_le, ℤ, pos, arith}
use Rattle.std.specs.Int.{div_ceil}
use Rattle.std.proofs.Math.Nat.{le-div_iff_mul-le, mul-le-mul_right}
use Rattle.std.proofs.lemmas.Grind.{div_ceil_times}
use Rattle.std.proofs.lemmas.Bool.Decides.{nat_tests}
use Rattle.box_trace.specs.Windows.{IsFirstReach}

below_next : (q k : ℕ) → (k + 1 ≤ q → ⊥) → q ≤ k
below_next q k not_above = grind arith

-- a quotient rounded up is at most k exactly where the dividend is at most k times the divisor
div_ceil_le : (a b k : ℕ) → 0 < b → a ≤ k * b → div_ceil a b ≤ k
div_ceil_le a b k some below =
    let t = div_ceil_times a b some in
    below_next (div_ceil a b) k (λ h. let step : (k + 1) * b ≤ div_ceil a b * b = mul-le-mul_right b h in omega arith)

le_of_div_ceil : (a b k : ℕ) → 0 < b → div_ceil a b ≤ k → a ≤ k * b
le_of_div_ceil a b k some below =
    let t = div_ceil_times a b some in
    omega (arith, mul-le-mul_right b below)

-- the same test on both sides
same_test : (a b c d : ℕ) → (a ≤ b → c ≤ d) → (c ≤ d → a ≤ b) → nat_le a b ≡ nat_le c d
same_test a b c d to from = grind (arith, nat_tests)

-- a part of this size comes so far at step t * n / size, rounded up
div_ceil-reach : (t size n k : ℕ) → 0 < size → 0 < n → nat_le (div_ceil (t * n) size) k ≡ nat_le t (size * k / n)
div_ceil-reach t size n k some_size some_n =
    let iff = le-div_iff_mul-le {k = n} {x = t} {y = size * k} some_n in
    same_test (div_ceil (t * n) size) k t (size * k / n)
    (λ h. iff.1 (omega (arith, le_of_div_ceil (t * n) size k some_size h)))
    (λ h. div_ceil_le (t * n) size k some_size (omega (arith, iff.0 h)))

-- the first step at which a part has come so far, as the code finds it
pub first_reach_is : (target : ℤ) (t size count first : ℕ) → target ≡ pos t → 0 < t → t ≤ size → size ≤ count
    → first ≡ div_ceil (t * count) size → IsFirstReach target size count first
first_reach_is target t size count first target_is some within size_within first_is = record {
  within = rw first_is (omega (arith, div_ceil_le (t * count) size count (omega arith) (omega (arith, mul-le-mul_right count within))));
  reach = λ k h. rw (first_is, target_is) (div_ceil-reach t size count k (omega arith) (omega arith));
}
