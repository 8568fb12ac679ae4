-- Numbers in lists.
use Rattle.std.proofs.Common.{◌≡◌, ℕ, zero, suc, ◌+◌, ◌<◌, ◌≤◌, Bool, true, false, List, [], ◌∷◌, ◌++◌, map, refl, sym, ap, ◌∙◌, subst, inl, inr, arith}
use Rattle.std.specs.Prelude.{◌==◌, ◌||◌, filter}
use Rattle.std.specs.List.{range_with_len}
use Rattle.std.proofs.lemmas.Bool.{cases_Bool, false≢true, true≢false, eqb-true, eqb-false, eq-eqb, or_cases, or_left, or_right, false_from_ne_true}
use Rattle.core_steps.specs.Nodes.{has}
use Rattle.core_steps.specs.Stands.{AreDistinct}

or_assoc : (a b c : Bool) → (a || (b || c)) ≡ ((a || b) || c)
or_assoc true b c = refl
or_assoc false b c = refl

pub has_append : (xs ys : List ℕ) (v : ℕ) → has (xs ++ ys) v ≡ (has xs v || has ys v)
has_append [] ys v = refl
has_append (x ∷ xs) ys v = ap (λ (b : Bool). (x == v) || b) (has_append xs ys v) ∙ or_assoc (x == v) (has xs v) (has ys v)

pub has_front : (xs ys : List ℕ) (v : ℕ) → has xs v ≡ true → has (xs ++ ys) v ≡ true
has_front xs ys v h = has_append xs ys v ∙ or_left _ _ h

pub distinct_front : (xs ys : List ℕ) → AreDistinct (xs ++ ys) → AreDistinct xs
distinct_front [] ys is = tt
distinct_front (x ∷ xs) ys is =
    (false_from_ne_true _ (λ h. true≢false (sym (has_front xs ys x h) ∙ is.0)), distinct_front xs ys is.1)

pub has_last : (xs : List ℕ) (x : ℕ) → has (xs ++ x ∷ []) x ≡ true
has_last xs x = has_append xs (x ∷ []) x ∙ or_right (has xs x) _ (or_left (x == x) false (eq-eqb x x refl))

-- what is in a list with one more at the end, and isn't that one, was in it
pub has_before_last : (xs : List ℕ) (x v : ℕ) → has (xs ++ x ∷ []) v ≡ true → (v == x) ≡ false → has xs v ≡ true
has_before_last xs x v h other =
    elim (or_cases (has xs v) (has (x ∷ []) v) (sym (has_append xs (x ∷ []) v) ∙ h)) [
      | inl e ↦ e
      | inr e ↦ elim (or_cases (x == v) false e) [
        | inl same ↦ absurd (true≢false (sym (eq-eqb v x (sym (eqb-true x v same))) ∙ other))
        | inr none ↦ absurd (false≢true none)
      ]
    ]

-- ---- filters

pub record IsKept (test : ℕ → Bool) (xs : List ℕ) (v : ℕ) : Type 0 where
  pub listed : has xs v ≡ true
  pub passes : test v ≡ true

pub has_filter : (test : ℕ → Bool) (xs : List ℕ) (v : ℕ) → has (filter test xs) v ≡ true → IsKept test xs v
has_filter test [] v h = absurd (false≢true h)
has_filter test (x ∷ xs) v h =
    elim (cases_Bool (test x)) [
      | inl e ↦
          let split : ((x == v) || has (filter test xs) v) ≡ true = rw e at h in
          elim (or_cases (x == v) (has (filter test xs) v) split) [
            | inl same ↦ record { listed = or_left _ _ same; passes = subst (λ (n : ℕ). test n ≡ true) (eqb-true x v same) e }
            | inr rest ↦ let kept = has_filter test xs v rest in record { listed = or_right _ _ kept.listed; passes = kept.passes }
          ]
      | inr e ↦
          let rest : has (filter test xs) v ≡ true = rw e at h in
          let kept = has_filter test xs v rest in
          record { listed = or_right _ _ kept.listed; passes = kept.passes }
    ]

pub filter_has : (test : ℕ → Bool) (xs : List ℕ) (v : ℕ) → has xs v ≡ true → test v ≡ true → has (filter test xs) v ≡ true
filter_has test [] v h passes = absurd (false≢true h)
filter_has test (x ∷ xs) v h passes =
    elim (or_cases (x == v) (has xs v) h) [
      | inl same ↦ rw (subst (λ (n : ℕ). test n ≡ true) (sym (eqb-true x v same)) passes) (or_left _ _ same)
      | inr rest ↦ elim (cases_Bool (test x)) [
        | inl e ↦ rw e (or_right (x == v) _ (filter_has test xs v rest passes))
        | inr e ↦ rw e (filter_has test xs v rest passes)
      ]
    ]

pub distinct_filter : (test : ℕ → Bool) (xs : List ℕ) → AreDistinct xs → AreDistinct (filter test xs)
distinct_filter test [] is = tt
distinct_filter test (x ∷ xs) is =
    elim (cases_Bool (test x)) [
      | inl e ↦ rw e (false_from_ne_true _ (λ h. true≢false (sym (has_filter test xs x h).listed ∙ is.0)), distinct_filter test xs is.1)
      | inr e ↦ rw e (distinct_filter test xs is.1)
    ]

-- ---- ranges

pub record IsInRange (low n v : ℕ) : Type 0 where
  pub least : low ≤ v
  pub most : v < low + n

pub has_range : (low n v : ℕ) → has (range_with_len low n) v ≡ true → IsInRange low n v
has_range low zero v h = absurd (false≢true h)
has_range low (suc n) v h =
    elim (or_cases (low == v) (has (range_with_len (low + 1) n) v) h) [
      | inl same ↦ let e = eqb-true low v same in record { least = omega arith; most = omega arith }
      | inr rest ↦ let is = has_range (low + 1) n v rest in record { least = omega arith; most = omega arith }
    ]

pub range_has : (low n v : ℕ) → low ≤ v → v < low + n → has (range_with_len low n) v ≡ true
range_has low zero v least most = absurd (omega arith)
range_has low (suc n) v least most =
    elim (cases_Bool (low == v)) [
      | inl same ↦ or_left _ _ same
      | inr other ↦ let differs = eqb-false low v other in or_right (low == v) _ (range_has (low + 1) n v (above low v least differs) (omega arith))
    ]
  where
    above : (a b : ℕ) → a ≤ b → (a ≡ b → ⊥) → a + 1 ≤ b
    above a b least differs = omega arith

pub distinct_range : (low n : ℕ) → AreDistinct (range_with_len low n)
distinct_range low zero = tt
distinct_range low (suc n) =
    (false_from_ne_true _ (λ h. let is = has_range (low + 1) n low h in absurd (omega arith)), distinct_range (low + 1) n)

-- ---- sums

pub record IsShifted (by : ℕ) (xs : List ℕ) (v : ℕ) : Type 0 where
  pub from : ℕ
  pub listed : has xs from ≡ true
  pub is : v ≡ by + from

pub has_shifted : (by : ℕ) (xs : List ℕ) (v : ℕ) → has (map (λ x. by + x) xs) v ≡ true → IsShifted by xs v
has_shifted by [] v h = absurd (false≢true h)
has_shifted by (x ∷ xs) v h =
    elim (or_cases (by + x == v) (has (map (λ x. by + x) xs) v) h) [
      | inl same ↦ record { from = x; listed = or_left _ _ (eq-eqb x x refl); is = sym (eqb-true (by + x) v same) }
      | inr rest ↦ let there = has_shifted by xs v rest in record { from = there.from; listed = or_right _ _ there.listed; is = there.is }
    ]

pub shifted_has : (by : ℕ) (xs : List ℕ) (x : ℕ) → has xs x ≡ true → has (map (λ y. by + y) xs) (by + x) ≡ true
shifted_has by [] x h = absurd (false≢true h)
shifted_has by (y ∷ xs) x h =
    elim (or_cases (y == x) (has xs x) h) [
      | inl same ↦ or_left _ _ (eq-eqb (by + y) (by + x) (ap (λ (n : ℕ). by + n) (eqb-true y x same)))
      | inr rest ↦ or_right _ _ (shifted_has by xs x rest)
    ]

pub distinct_shifted : (by : ℕ) (xs : List ℕ) → AreDistinct xs → AreDistinct (map (λ x. by + x) xs)
distinct_shifted by [] is = tt
distinct_shifted by (x ∷ xs) is = (
  false_from_ne_true _ (λ h.
      let there = has_shifted by xs (by + x) h in
      let same : there.from ≡ x = omega arith in
      true≢false (sym (subst (λ (n : ℕ). has xs n ≡ true) same there.listed) ∙ is.0)),
  distinct_shifted by xs is.1,
)
