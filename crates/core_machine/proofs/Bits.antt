-- A player's bit in a list word.
use Rattle.std.proofs.Common.{◌≡◌, ℕ, ◌-◌, ◌*◌, ◌%◌, ◌^◌, ◌<◌, ◌==◌, ◌&&◌, ◌||◌, not, inl, inr, bit_and, bit_or, refl, ◌∙◌, arith}
use Rattle.std.specs.Int.{bit_at, w64}
use Rattle.std.proofs.lemmas.Nat.{or_lt, and_le_l}
use Rattle.std.proofs.lemmas.Nat.Bits.{bit_at-lt, bit_at_set_same, bit_at_set_other, bit_at_clear_same, bit_at_clear_other}
use Rattle.std.proofs.lemmas.Bool.{cases_eq, eq-eqb, ne_eqb}
use Rattle.areanode.specs.Words.{has_bit}
use Rattle.areanode.proofs.Words.{same_word, bit_by_test}
use Rattle.core_steps.specs.Cells.{with_bit, without_bit}

pub word_with_bit : (w slot : ℕ) → w < 2 ^ 64 → slot < 64 → bit_or w (1 * 2 ^ slot % 2 ^ 64) ≡ with_bit w slot
word_with_bit w slot below player =
    same_word 64 (bit_or w (1 * 2 ^ slot % 2 ^ 64)) (λ i. (i == slot) || has_bit w i)
    (or_lt 64 w (1 * 2 ^ slot % 2 ^ 64) below (omega arith))
    (λ i _. elim (cases_eq i slot) [
      | inl same ↦ rw (same, eq-eqb slot slot refl) (bit_at_set_same w64 w slot player)
      | inr other ↦ rw (ne_eqb i slot other) (bit_at_set_other w64 w slot player i other ∙ bit_by_test (bit_at w i) (bit_at-lt w i))
    ])

no_more : (w x : ℕ) → w < 2 ^ 64 → bit_and w x < 2 ^ 64
no_more w x below = omega (arith, and_le_l w x)

pub word_without_bit : (w slot : ℕ) → w < 2 ^ 64 → slot < 64 → bit_and w (2 ^ 64 - 1 - 1 * 2 ^ slot % 2 ^ 64) ≡ without_bit w slot
word_without_bit w slot below player =
    same_word 64 (bit_and w (2 ^ 64 - 1 - 1 * 2 ^ slot % 2 ^ 64)) (λ i. not (i == slot) && has_bit w i)
    (no_more w _ below)
    (λ i small. elim (cases_eq i slot) [
      | inl same ↦ rw (same, eq-eqb slot slot refl) (bit_at_clear_same w64 w slot player)
      | inr other ↦ rw (ne_eqb i slot other) (bit_at_clear_other w64 w slot player i small other ∙ bit_by_test (bit_at w i) (bit_at-lt w i))
    ])
