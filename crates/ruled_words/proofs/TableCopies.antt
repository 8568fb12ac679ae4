-- The words of a closed table, copied one by one.
use Rattle.std.proofs.Common.{◌≡◌, ℕ, zero, suc, ◌+◌, ◌<◌, List, [], ◌∷◌, length, slice_index, slice_set, sym, ap, ◌∙◌, subst, inl, inr, arith, length-set, get_or-set_same, get_or-set_other}
use Rattle.std.proofs.lemmas.Bool.{cases_eq}
use Rattle.core_steps.specs.declared.sizes.TheConstants.{TABLE_WORDS}
use mathlib.Core.Option.{some, some-injective, some-ne-none}
use lib.ListN.{get_elem?}

-- a word that is found at a place
pub word_found : (words : List ℕ) (k word : ℕ) → get_elem? words k ≡ some word → slice_index words k ≡ word
word_found [] k word at = absurd (some-ne-none word (sym at))
word_found (x ∷ words) zero word at = some-injective x word at
word_found (x ∷ words) (suc k) word at = word_found words k word at

-- the words below an index are copied
pub record IsCopiedBelow (n : ℕ) (words copy : List ℕ) : Type 0 where
  pub count : length copy ≡ TABLE_WORDS
  pub each : (k : ℕ) → k < n → get_elem? words k ≡ some (slice_index copy k)

pub copied_next : (n word : ℕ) (words copy : List ℕ) → IsCopiedBelow n words copy → n < TABLE_WORDS → get_elem? words n ≡ some word
    → IsCopiedBelow (n + 1) words (slice_set copy n word)
copied_next n word words copy is below at = record {
  count = length-set copy n word ∙ is.count;
  each = λ k within. elim (cases_eq k n) [
    | inl same ↦ subst (λ (j : ℕ). get_elem? words j ≡ some (slice_index (slice_set copy n word) j)) (sym same)
        (at ∙ ap (λ (x : ℕ). some x) (sym (get_or-set_same copy n word 0 (let c = is.count in omega (arith, below, c)))))
    | inr apart ↦ is.each k (within_rest k within apart) ∙ ap (λ (x : ℕ). some x) (sym (get_or-set_other copy n k word 0 apart))
  ];
}
  where
    within_rest : (k : ℕ) → k < n + 1 → (k ≡ n → ⊥) → k < n
    within_rest k within apart = omega (arith, within, apart)
