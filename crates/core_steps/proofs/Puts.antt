-- A function with another value at one number.
use Rattle.std.proofs.Common.{◌≡◌, ℕ, false, refl, sym, subst, inl, inr}
use Rattle.std.specs.Prelude.{◌==◌}
use Rattle.std.proofs.lemmas.Bool.{cases_Bool, eqb-true, eq-eqb, eqb-false, ne_eqb, cond-true, cond-false}
use Rattle.core_steps.specs.Cells.{put}

-- what holds of the new value at its number, and of the old values at the others, holds at each number
pub each_put : {A : Type 0} (P : ℕ → A → Type 0) (i : ℕ) (a : A) (f : ℕ → A) → P i a → ((j : ℕ) → (j == i) ≡ false → P j (f j)) → (j : ℕ) → P j (put i a f j)
each_put {A} P i a f here others j =
    elim (cases_Bool (j == i)) [
      | inl e ↦ subst (P j) (sym (cond-true (j == i) a (f j) e)) (subst (λ (k : ℕ). P k a) (sym (eqb-true j i e)) here)
      | inr e ↦ subst (P j) (sym (cond-false (j == i) a (f j) e)) (others j e)
    ]

pub put_same : {A : Type 0} (i : ℕ) (a : A) (f : ℕ → A) → put i a f i ≡ a
put_same i a f = cond-true (i == i) a (f i) (eq-eqb i i refl)

pub put_other : {A : Type 0} (i j : ℕ) (a : A) (f : ℕ → A) → (j == i) ≡ false → put i a f j ≡ f j
put_other i j a f e = cond-false (j == i) a (f j) e

-- what the new value keeps of the old one at its number, the function keeps at each number
pub kept_put : {A B : Type 0} (g : A → B) (i : ℕ) (a : A) (f : ℕ → A) → g a ≡ g (f i) → (j : ℕ) → g (put i a f j) ≡ g (f j)
kept_put {A} {B} g i a f e j = each_put (λ (k : ℕ) (x : A). g x ≡ g (f k)) i a f e (λ k _. refl) j

pub eqb_sym : (a b : ℕ) → (a == b) ≡ false → (b == a) ≡ false
eqb_sym a b e = ne_eqb b a (λ same. eqb-false a b e (sym same))
