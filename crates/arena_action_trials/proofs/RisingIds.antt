-- Ids of known records, which rise.
use Rattle.std.proofs.Common.{◌≡◌, ℕ, zero, suc, ◌+◌, ◌<◌, Bool, true, List, [], ◌∷◌, slice_index, subst, arith}
use Rattle.std.specs.Prelude.{nat_lt, ◌&&◌}
use Rattle.std.specs.List.Sorted.{IsStrictlyIncreasing}
use Rattle.std.proofs.lemmas.Bool.{and_parts, ltb-true}

pub two_rise : (a b : ℕ) → a < b → IsStrictlyIncreasing (a ∷ b ∷ [])
two_rise a b less zero more = less
two_rise a b less (suc k) more = absurd (omega (arith, more))

-- each number is below the next one
abbrev pub each_below : List ℕ → Bool
each_below [] = true
each_below (a ∷ []) = true
each_below (a ∷ (b ∷ xs)) = nat_lt a b && each_below (b ∷ xs)

-- then the list rises
pub rise_by_test : (xs : List ℕ) → each_below xs ≡ true → IsStrictlyIncreasing xs
rise_by_test [] test k within = absurd (omega (arith, within))
rise_by_test (a ∷ []) test k within = absurd (omega (arith, within))
rise_by_test (a ∷ (b ∷ xs)) test zero within = ltb-true a b (and_parts (nat_lt a b) (each_below (b ∷ xs)) test).0
rise_by_test (a ∷ (b ∷ xs)) test (suc k) within =
    let later : suc (k + 1) ≡ suc k + 1 = omega arith in
    let rest = rise_by_test (b ∷ xs) (and_parts (nat_lt a b) (each_below (b ∷ xs)) test).1 k (omega (arith, within)) in
    subst (λ (j : ℕ). slice_index (b ∷ xs) k < slice_index (a ∷ (b ∷ xs)) j) later rest
