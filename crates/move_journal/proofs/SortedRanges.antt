-- Numbers that don't fall, and are those of a range, are the range.
use Rattle.std.proofs.Common.{◌≡◌, ℕ, ◌+◌, ◌<◌, ◌≤◌, suc, zero, Bool, true, false, List, [], ◌∷◌, length, refl, ap, ◌∙◌, subst, inl, inr, arith}
use Rattle.std.specs.Prelude.{⊤, nat_lt, nat_le, map, slice_index_or}
use Rattle.std.specs.List.{range_with_len, sum_by}
use Rattle.std.specs.List.Sorted.{IsPermutation, IsNonDecreasingBy}
use Rattle.std.proofs.lemmas.Bool.{cases_Bool, false≢true, ltb-true, ltb-false, le-leb, leb-true}
use Rattle.std.proofs.lemmas.List.Sums.{sum_by-cons}
use Rattle.std.proofs.lemmas.List.Sorted.{sum_by-IsPermutation}

-- each is at least this, and none is below the one before it
abbrev pub IsUpFrom : ℕ → List ℕ → Type 0
IsUpFrom least [] = ⊤
IsUpFrom least (x ∷ xs) = (least ≤ x) × IsUpFrom x xs

module _ {X : Type 0} (n : X → ℕ) where
  pub up_from : (least : ℕ) (xs : List X) → ((d : X) → 0 < length xs → least ≤ n (slice_index_or xs 0 d)) → IsNonDecreasingBy n xs → IsUpFrom least (map n xs)
  up_from least [] first up = tt
  up_from least (x ∷ xs) first up = (
    first x (omega arith),
    up_from (n x) xs (λ d some. up 0 1 d (omega arith) (omega (arith, some))) (λ i j d le lt. up (suc i) (suc j) d (omega (arith, le)) (omega (arith, lt))),
  )

-- the two have the same numbers
abbrev SameSums : List ℕ → List ℕ → Type 0
SameSums xs ys = (f : ℕ → ℕ) → sum_by f xs ≡ sum_by f ys

-- how often a test is passed
abbrev if_passed : Bool → ℕ
if_passed true = 1
if_passed false = 0

abbrev passes : (ℕ → Bool) → ℕ → ℕ
passes test x = if_passed (test x)

fails : (b : Bool) → (b ≡ true → ⊥) → if_passed b ≡ 0
fails true never = absurd (never refl)
fails false never = refl

passed : (b : Bool) → if_passed b ≡ 0 → b ≡ true → ⊥
passed true e t = absurd (omega (arith, e))
passed false e t = false≢true t

none_above : (bound least : ℕ) (xs : List ℕ) → bound < least → IsUpFrom least xs → sum_by (passes (λ x. nat_le x bound)) xs ≡ 0
none_above bound least [] below up = refl
none_above bound least (x ∷ xs) below up =
    let rest = none_above bound x xs (omega (arith, below, up.0)) up.1 in
    let head : passes (λ x. nat_le x bound) x ≡ 0 = fails (nat_le x bound) (λ e. let le = leb-true x bound e in omega (arith, le, below, up.0)) in
    sum_by-cons (passes (λ x. nat_le x bound)) x xs ∙ omega (arith, rest, head)

none_below : (bound a k : ℕ) → bound ≤ a → sum_by (passes (λ x. nat_lt x bound)) (range_with_len a k) ≡ 0
none_below bound a zero le = refl
none_below bound a (suc k) le =
    let rest = none_below bound (a + 1) k (omega (arith, le)) in
    let head : passes (λ x. nat_lt x bound) a ≡ 0 = fails (nat_lt a bound) (λ e. let lt = ltb-true a bound e in omega (arith, lt, le)) in
    sum_by-cons (passes (λ x. nat_lt x bound)) a (range_with_len (a + 1) k) ∙ omega (arith, rest, head)

-- the first of such numbers is the first of the range
first_is : (a k x : ℕ) (xs : List ℕ) → IsUpFrom x xs → SameSums (x ∷ xs) (range_with_len a (suc k)) → x ≡ a
first_is a k x xs up same = omega (arith, not_below, not_above)
  where
    not_below : a ≤ x
    not_below = elim (cases_Bool (nat_lt x a)) [
      | inl e ↦
          let s = same (passes (λ y. nat_lt y a)) in
          let cons = sum_by-cons (passes (λ y. nat_lt y a)) x xs in
          let none = none_below a a (suc k) (omega arith) in
          absurd (passed (nat_lt x a) (omega (arith, s, cons, none)) e)
      | inr e ↦ ltb-false x a e
    ]

    not_above : x ≤ a
    not_above = elim (cases_Bool (nat_lt a x)) [
      | inl e ↦
          let lt = ltb-true a x e in
          let s = same (passes (λ y. nat_le y a)) in
          let none = none_above a (a + 1) (x ∷ xs) (omega arith) (omega (arith, lt), up) in
          let cons = sum_by-cons (passes (λ y. nat_le y a)) a (range_with_len (a + 1) k) in
          absurd (passed (nat_le a a) (omega (arith, s, cons, none)) (le-leb a a (omega arith)))
      | inr e ↦ ltb-false a x e
    ]

range_of : (least a k : ℕ) (xs : List ℕ) → IsUpFrom least xs → SameSums xs (range_with_len a k) → xs ≡ range_with_len a k
range_of least a zero [] up same = refl
range_of least a zero (x ∷ xs) up same =
    let s = same (λ _. 1) in
    let cons = sum_by-cons (λ (_ : ℕ). 1) x xs in
    absurd (omega (arith, s, cons))
range_of least a (suc k) [] up same =
    let s = same (λ _. 1) in
    let cons = sum_by-cons (λ (_ : ℕ). 1) a (range_with_len (a + 1) k) in
    absurd (omega (arith, s, cons))
range_of least a (suc k) (x ∷ xs) up same =
    let head : x ≡ a = first_is a k x xs up.1 same in
    let rest = range_of x (a + 1) k xs up.1 (λ f.
    let s = same f in
    let left = sum_by-cons f x xs in
    let right = sum_by-cons f a (range_with_len (a + 1) k) in
    let first = ap f head in
    omega (arith, s, left, right, first)) in
    subst (λ (ys : List ℕ). x ∷ xs ≡ a ∷ ys) rest (subst (λ (y : ℕ). x ∷ xs ≡ y ∷ xs) head refl)

pub sorted_range : {X : Type 0} (n : X → ℕ) (xs : List X) (a k : ℕ) → IsNonDecreasingBy n xs → IsPermutation (range_with_len a k) (map n xs) → map n xs ≡ range_with_len a k
sorted_range n xs a k up same =
    range_of 0 a k (map n xs) (up_from n 0 xs (λ d some. omega arith) up) (λ f. sum_by-IsPermutation f (range_with_len a k) (map n xs) same)
