-- How far a part has come at a step.
use Rattle.std.proofs.Common.{◌≡◌, ℕ, suc, ◌*◌, ◌/◌, ◌≤◌, ℤ, pos, negsuc, ◌*ℤ◌, neg_ℤ, unsigned_abs, int_div, FitsSigned, refl, ap, ◌∙◌, arith}
use Rattle.std.specs.Int.{w32, w64, cast_signed, cast_unsigned}
use Rattle.std.proofs.Math.Nat.{div-le_of_le-mul, mul-le-mul_left}
use Rattle.std.proofs.lemmas.Nat.{mul-le}
use Rattle.std.proofs.lemmas.Int.{to_z-of_z, fits_signed_from_abs, unsigned_abs-mul, quot_is}
use Rattle.arena_geo.proofs.Quotients.{int_div-neg, unsigned_abs-neg}
use Rattle.box_trace.specs.Steps.{part_at}

-- a share of a whole is at most the whole
pub share_le : (size k n : ℕ) → k ≤ n → size * k / n ≤ size
share_le size k n within = div-le_of_le-mul n (omega (arith, mul-le-mul_left size within))

-- a part below 0 has come as far as one above, the other way
pub part_at-neg : (n k a : ℕ) → part_at n k (negsuc a) ≡ neg_ℤ (pos (suc a * k / n))
part_at-neg n k a = int_div-neg (suc a * k) n

-- the size of what a part has come
pub unsigned_abs-part_at : (n k : ℕ) (part : ℤ) → unsigned_abs (part_at n k part) ≡ unsigned_abs part * k / n
unsigned_abs-part_at n k (pos a) = refl
unsigned_abs-part_at n k (negsuc a) = ap unsigned_abs (part_at-neg n k a) ∙ unsigned_abs-neg (suc a * k / n)

pub unsigned_abs-part_at_le : (n k : ℕ) (part : ℤ) → k ≤ n → unsigned_abs (part_at n k part) ≤ unsigned_abs part
unsigned_abs-part_at_le n k part within =
    let e = unsigned_abs-part_at n k part in omega (arith, e, share_le (unsigned_abs part) k n within)

-- what the code's 64-bit product and quotient give
pub part_at-wide : (part a b d : ℤ) (k n : ℕ) → unsigned_abs part ≤ n → k ≤ n → n ≤ 65536 → a ≡ part → b ≡ pos k
    → d ≡ pos n
    → cast_signed w64 (cast_unsigned w64 (int_div (cast_signed w64 (cast_unsigned w64 (cast_signed w64 (cast_unsigned w64 a) *ℤ cast_signed w64 (cast_unsigned w64 b)))) (cast_signed w64 (cast_unsigned w64 d)))) ≡ part_at n k part
part_at-wide part a b d k n size within few a_is b_is d_is =
    let fits_part : FitsSigned w64 part = fits_signed_from_abs w64 part (omega arith) in
    let fits_k : FitsSigned w64 (pos k) = fits_signed_from_abs w64 (pos k) (omega arith) in
    let fits_n : FitsSigned w64 (pos n) = fits_signed_from_abs w64 (pos n) (omega arith) in
    let small : unsigned_abs part * k ≤ 65536 * 65536 = mul-le (unsigned_abs part) k 65536 65536 (omega arith) (omega arith) in
    let fits_product : FitsSigned w64 (part *ℤ pos k) = fits_signed_from_abs w64 (part *ℤ pos k) (omega (arith, unsigned_abs-mul part (pos k))) in
    let fits_result : FitsSigned w64 (part_at n k part) = fits_signed_from_abs w64 (part_at n k part) (omega (arith, unsigned_abs-part_at_le n k part within)) in
    rw (a_is, b_is, d_is, to_z-of_z w64 part fits_part, to_z-of_z w64 (pos k) fits_k) (quot_is w64 (part *ℤ pos k) (pos n) fits_product fits_n fits_result)

pub FitsSigned-part_at : (n k : ℕ) (part : ℤ) → unsigned_abs part ≤ n → k ≤ n → n ≤ 65536
    → FitsSigned w32 (part_at n k part)
FitsSigned-part_at n k part size within few =
    fits_signed_from_abs w32 (part_at n k part) (omega (arith, unsigned_abs-part_at_le n k part within))
