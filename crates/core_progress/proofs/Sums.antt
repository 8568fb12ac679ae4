-- Sums of which one number is lowered, or is not 0.
use Rattle.std.proofs.Common.{◌≡◌, ℕ, zero, suc, ◌+◌, ◌*◌, ◌<◌, ◌≤◌, ◌⊎◌, false, List, [], ◌∷◌, refl, sym, ◌∙◌, subst, inl, inr, arith}
use Rattle.std.specs.Prelude.{◌==◌}
use Rattle.std.specs.List.{range_with_len, sum_by}
use Rattle.std.proofs.lemmas.Bool.{cases_Bool, true≢false, eqb-true, eq-eqb, false_from_ne_true}
use Rattle.std.proofs.lemmas.List.Sums.{sum_by-cons}

pub sum_le : (f g : ℕ → ℕ) (xs : List ℕ) → ((j : ℕ) → f j ≤ g j) → sum_by f xs ≤ sum_by g xs
sum_le f g [] each = omega arith
sum_le f g (x ∷ xs) each =
    let rest = sum_le f g xs each in
    let here = each x in
    let new = sum_by-cons f x xs in
    let old = sum_by-cons g x xs in
    omega (arith, rest, here, new, old)

each_le : (f g : ℕ → ℕ) (i k : ℕ) → ((j : ℕ) → (j == i) ≡ false → f j ≤ g j) → f i + k ≤ g i → (j : ℕ) → f j ≤ g j
each_le f g i k others here j = elim (cases_Bool (j == i)) [
  | inl same ↦ subst (λ (n : ℕ). f n ≤ g n) (sym (eqb-true j i same)) (omega (arith, here))
  | inr other ↦ others j other
]

-- where one number of the range is lower by so much, and no other is higher, the sum is lower by as much
pub sum_lower : (f g : ℕ → ℕ) (i k low n : ℕ) → ((j : ℕ) → (j == i) ≡ false → f j ≤ g j) → f i + k ≤ g i → low ≤ i → i < low + n
    → sum_by f (range_with_len low n) + k ≤ sum_by g (range_with_len low n)
sum_lower f g i k low zero others here least most = absurd (omega (arith, least, most))
sum_lower f g i k low (suc n) others here least most =
    let new = sum_by-cons f low (range_with_len (low + 1) n) in
    let old = sum_by-cons g low (range_with_len (low + 1) n) in
    elim (cases_Bool (low == i)) [
      | inl same ↦
          let first : f low + k ≤ g low = subst (λ (m : ℕ). f m + k ≤ g m) (sym (eqb-true low i same)) here in
          let rest = sum_le f g (range_with_len (low + 1) n) (each_le f g i k others here) in
          omega (arith, new, old, first, rest)
      | inr other ↦
          let first = others low other in
          let less = apart low i other least in
          let rest = sum_lower f g i k (low + 1) n others here (omega (arith, less)) (omega (arith, most)) in
          omega (arith, new, old, first, rest)
    ]
  where
    apart : (a b : ℕ) → (a == b) ≡ false → a ≤ b → a < b
    apart a b other least = let differ : a ≡ b → ⊥ = λ same. true≢false (sym (eq-eqb a b same) ∙ other) in omega (arith, differ, least)

-- a number of these is not 0
pub record IsSomeAt (f : ℕ → ℕ) : Type 0 where
  pub at : ℕ
  pub some : 0 < f at

-- a sum is 0, or some number of it isn't
pub sum_some : (f : ℕ → ℕ) (xs : List ℕ) → (sum_by f xs ≡ 0) ⊎ IsSomeAt f
sum_some f [] = inl (omega arith)
sum_some f (x ∷ xs) = by_first (f x) refl (sum_some f xs)
  where
    by_first : (n : ℕ) → f x ≡ n → (sum_by f xs ≡ 0) ⊎ IsSomeAt f → (sum_by f (x ∷ xs) ≡ 0) ⊎ IsSomeAt f
    by_first zero e (inl none) = let all = sum_by-cons f x xs in inl (omega (arith, all, none, e))
    by_first zero e (inr some) = inr some
    by_first (suc n) e rest = inr (record { at = x; some = omega (arith, e) })

sum_above : (f g : ℕ → ℕ) (i low n : ℕ) → ((j : ℕ) → (j == i) ≡ false → f j ≤ g j) → i < low → sum_by f (range_with_len low n) ≤ sum_by g (range_with_len low n)
sum_above f g i low zero others above = omega arith
sum_above f g i low (suc n) others above =
    let new = sum_by-cons f low (range_with_len (low + 1) n) in
    let old = sum_by-cons g low (range_with_len (low + 1) n) in
    let first = others low (false_from_ne_true _ (λ same. let e = eqb-true low i same in absurd (omega (arith, e, above)))) in
    let rest = sum_above f g i (low + 1) n others (omega (arith, above)) in
    omega (arith, new, old, first, rest)

-- where one number is higher by at most so much, and no other is higher, the sum is higher by at most as much
pub sum_higher : (f g : ℕ → ℕ) (i k low n : ℕ) → ((j : ℕ) → (j == i) ≡ false → f j ≤ g j) → f i ≤ g i + k
    → sum_by f (range_with_len low n) ≤ sum_by g (range_with_len low n) + k
sum_higher f g i k low zero others here = omega arith
sum_higher f g i k low (suc n) others here =
    let new = sum_by-cons f low (range_with_len (low + 1) n) in
    let old = sum_by-cons g low (range_with_len (low + 1) n) in
    elim (cases_Bool (low == i)) [
      | inl same ↦
          let e = eqb-true low i same in
          let first : f low ≤ g low + k = subst (λ (m : ℕ). f m ≤ g m + k) (sym e) here in
          let rest = sum_above f g i (low + 1) n others (omega (arith, e)) in
          omega (arith, new, old, first, rest)
      | inr other ↦
          let first = others low other in
          let rest = sum_higher f g i k (low + 1) n others here in
          omega (arith, new, old, first, rest)
    ]

-- no command takes no step
pub none_of : (n k : ℕ) → n ≡ 0 → n * k ≡ 0
none_of n k none = rw none (omega arith)
