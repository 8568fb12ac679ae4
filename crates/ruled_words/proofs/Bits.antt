-- A bit of a list word that is set or cleared.
use Rattle.std.proofs.Common.{◌≡◌, ℕ, ◌^◌, ◌<◌, ◌==◌, Bool, true, false, ◌&&◌, ◌||◌, not, ◌*◌, ◌%◌, refl, sym, ◌∙◌, inl, inr, arith, bit_and, bit_or, w64}
use Rattle.std.specs.Int.{bit_at, bit_not}
use Rattle.std.proofs.lemmas.Nat.{and_le_l, or_lt}
use Rattle.std.proofs.lemmas.Nat.Bits.{bit_at-lt, bit_at_set_same, bit_at_set_other, bit_at_clear_same, bit_at_clear_other}
use Rattle.std.proofs.lemmas.Bool.{cases_eq, eq-eqb, ne_eqb}
use Rattle.areanode.specs.Words.{has_bit}
use Rattle.areanode.proofs.Words.{bit, same_word, bit_by_test}
use Rattle.core_steps.specs.Cells.{with_bit, without_bit}

clear_here : (b c : Bool) → b ≡ true → bit (not b && c) ≡ 0
clear_here b c e = rw e refl

clear_there : (b c : Bool) → b ≡ false → bit (not b && c) ≡ bit c
clear_there b c e = rw e refl

set_here' : (b c : Bool) → b ≡ true → bit (b || c) ≡ 1
set_here' b c e = rw e refl

set_there : (b c : Bool) → b ≡ false → bit (b || c) ≡ bit c
set_there b c e = rw e refl

-- the word without the bit, as the code computes it
pub cleared : (n slot : ℕ) → n < 18446744073709551616 → slot < 64 → bit_and n (bit_not w64 (1 * 2 ^ slot % 2 ^ 64)) ≡ without_bit n slot
cleared n slot small below =
    same_word 64 (bit_and n (bit_not w64 (1 * 2 ^ slot % 2 ^ 64))) (λ other. not (other == slot) && has_bit n other)
    (let least = and_le_l n (bit_not w64 (1 * 2 ^ slot % 2 ^ 64)) in omega (arith, least))
    (λ i within. elim (cases_eq i slot) [
      | inl same ↦ rw same (bit_at_clear_same w64 n slot below ∙ sym (clear_here (slot == slot) (has_bit n slot) (eq-eqb slot slot refl)))
      | inr other ↦ bit_at_clear_other w64 n slot below i within other ∙ bit_by_test (bit_at n i) (bit_at-lt n i) ∙ sym (clear_there (i == slot) (has_bit n i) (ne_eqb i slot other))
    ])

-- the word with the bit, as the code computes it
pub set_bit : (n slot : ℕ) → n < 18446744073709551616 → slot < 64 → bit_or n (1 * 2 ^ slot % 2 ^ 64) ≡ with_bit n slot
set_bit n slot small below =
    same_word 64 (bit_or n (1 * 2 ^ slot % 2 ^ 64)) (λ other. (other == slot) || has_bit n other)
    (or_lt 64 n (1 * 2 ^ slot % 2 ^ 64) small (omega arith))
    (λ i within. elim (cases_eq i slot) [
      | inl same ↦ rw same (bit_at_set_same w64 n slot below ∙ sym (set_here' (slot == slot) (has_bit n slot) (eq-eqb slot slot refl)))
      | inr other ↦ bit_at_set_other w64 n slot below i other ∙ bit_by_test (bit_at n i) (bit_at-lt n i) ∙ sym (set_there (i == slot) (has_bit n i) (ne_eqb i slot other))
    ])
