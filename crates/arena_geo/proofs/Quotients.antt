-- Quotients of numbers below 0, which are cut towards 0.
use Rattle.std.proofs.Common.{◌≡◌, ℕ, zero, suc, ◌/◌, ℤ, pos, negsuc, neg_ℤ, unsigned_abs, refl}
use Rattle.std.specs.Prelude.{int_div}
use Rattle.std.proofs.Math.Nat.{zero-div}

pub unsigned_abs-neg : (m : ℕ) → unsigned_abs (neg_ℤ (pos m)) ≡ m
unsigned_abs-neg zero = refl
unsigned_abs-neg (suc m) = refl

pub int_div-neg : (m n : ℕ) → int_div (neg_ℤ (pos m)) (pos n) ≡ neg_ℤ (pos (m / n))
int_div-neg zero n = rw zero-div refl
int_div-neg (suc m) n = refl

pub abs-int_div : (z : ℤ) (whole : ℕ) → unsigned_abs (int_div z (pos whole)) ≡ unsigned_abs z / whole
abs-int_div (pos n) whole = refl
abs-int_div (negsuc n) whole = unsigned_abs-neg (suc n / whole)
