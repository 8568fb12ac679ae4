-- The bits of two words together.
use Rattle.std.proofs.Common.{◌≡◌, ℕ, zero, suc, ◌<◌, ◌==◌, max, ◌||◌, bit_or, refl, ap, ◌∙◌, arith}
use Rattle.std.specs.Int.{bit_at}
use Rattle.std.proofs.lemmas.Nat.Bits.{bit_at-lt, bit_at_or}
use Rattle.areanode.specs.Words.{has_bit}

pub either_bits : (a b i : ℕ) → has_bit (bit_or a b) i ≡ (has_bit a i || has_bit b i)
either_bits a b i = ap (λ (n : ℕ). n == 1) (bit_at_or a b i) ∙ by_bits (bit_at a i) (bit_at b i) (bit_at-lt a i) (bit_at-lt b i)
  where
    by_bits : (x y : ℕ) → x < 2 → y < 2 → (max x y == 1) ≡ ((x == 1) || (y == 1))
    by_bits zero zero less small = refl
    by_bits zero (suc zero) less small = refl
    by_bits (suc zero) zero less small = refl
    by_bits (suc zero) (suc zero) less small = refl
    by_bits (suc (suc x)) y less small = absurd (omega (arith, less))
    by_bits zero (suc (suc y)) less small = absurd (omega (arith, small))
    by_bits (suc zero) (suc (suc y)) less small = absurd (omega (arith, small))
