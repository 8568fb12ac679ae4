-- A root has half the binary digits of its number.
use Rattle.std.proofs.Common.{◌≡◌, ℕ, zero, suc, ◌+◌, ◌*◌, ◌/◌, ◌%◌, ◌^◌, ◌<◌, ◌≤◌, sym, subst, arith}
use Rattle.std.proofs.lemmas.Nat.{pow-add, one_shl, shl_whole}

-- a power of 2 is the square of the power of half its exponent, and twice as much where that is odd
halved : (l : ℕ) → 2 ^ l ≡ 2 ^ (l / 2) * 2 ^ (l / 2) * 2 ^ (l % 2)
halved l =
    let e : l ≡ l / 2 + l / 2 + l % 2 = omega arith in
    let whole : 2 ^ (l / 2 + l / 2 + l % 2) ≡ 2 ^ (l / 2 + l / 2) * 2 ^ (l % 2) = pow-add 2 (l / 2 + l / 2) (l % 2) in
    let half : 2 ^ (l / 2 + l / 2) ≡ 2 ^ (l / 2) * 2 ^ (l / 2) = pow-add 2 (l / 2) (l / 2) in
    subst (λ (m : ℕ). 2 ^ m ≡ 2 ^ (l / 2) * 2 ^ (l / 2) * 2 ^ (l % 2)) (sym e)
    (subst (λ (p : ℕ). 2 ^ (l / 2 + l / 2 + l % 2) ≡ p * 2 ^ (l % 2)) half whole)

square_within : (s r p n : ℕ) → r < 2 → p ≡ s * 2 ^ r → p ≤ n → s ≤ n
square_within s zero p n small e within = omega arith
square_within s (suc zero) p n small e within = omega arith
square_within s (suc (suc r)) p n small e within = omega arith

square_beyond : (h r p n : ℕ) → r < 2 → p ≡ h * h * 2 ^ r → n < 2 * p → n < 2 * h * (2 * h)
square_beyond h zero p n small e below = omega arith
square_beyond h (suc zero) p n small e below = omega arith
square_beyond h (suc (suc r)) p n small e below = omega arith

-- a number of l + 1 digits has a root of l / 2 + 1 digits
pub root_is_above : (l n : ℕ) → l < 64 → 2 ^ l ≤ n
    → 1 * 2 ^ (l / 2) % 2 ^ 64 * (1 * 2 ^ (l / 2) % 2 ^ 64) ≤ n
root_is_above l n few within =
    subst (λ (p : ℕ). p * p ≤ n) (sym (one_shl (l / 2) 64 (omega arith)))
    (square_within (2 ^ (l / 2) * 2 ^ (l / 2)) (l % 2) (2 ^ l) n (omega arith) (halved l) within)

pub root_is_below : (l n : ℕ) → l < 64 → n < 2 * 2 ^ l
    → n < 2 * 2 ^ (l / 2) % 2 ^ 64 * (2 * 2 ^ (l / 2) % 2 ^ 64)
root_is_below l n few below =
    subst (λ (p : ℕ). n < p * p) (sym (shl_whole 2 2 (l / 2) 64 (omega arith) (omega arith)))
    (square_beyond (2 ^ (l / 2)) (l % 2) (2 ^ l) n (omega arith) (halved l) below)
