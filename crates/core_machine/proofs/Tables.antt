-- Words that are put into the arrays.
use mathlib.Core.Path.{fun_ext}
use Rattle.std.proofs.Common.{◌≡◌, ℕ, ◌<◌, List, [], length, set, get_or, get_or-set_same, get_or-set_other, inl, inr, refl, arith}
use Rattle.std.proofs.lemmas.Bool.{cases_eq, eq-eqb, ne_eqb}
use Rattle.core_steps.specs.Cells.{put}
use Rattle.core_machine.specs.Tables.{rows}

-- one function at two places at once
put_at : {A : Type 0} (i j : ℕ) (a : A) (f : ℕ → A) → j ≡ i → put i a f j ≡ a
put_at i j a f same = rw (same, eq-eqb i i refl) refl

put_away : {A : Type 0} (i j : ℕ) (a : A) (f : ℕ → A) → (j ≡ i → ⊥) → put i a f j ≡ f j
put_away i j a f other = rw (ne_eqb j i other) refl

row_at : (body : List (List ℕ)) (s k x j : ℕ) (beyond : ℕ → ℕ → ℕ) → s < 64 → k < 5 → length body ≡ 64 → length (get_or body s []) ≡ 5
    → rows (set body s (set (get_or body s []) k x)) beyond s j ≡ put k x (rows body beyond s) j
row_at body s k x j beyond slot below size five =
    let there : s < length body = omega arith in
    let within_row : k < length (get_or body s []) = omega arith in
    elim (cases_eq j k) [
      | inl same ↦ rw (put_at k j x (rows body beyond s) same, same, get_or-set_same, get_or-set_same) (grind arith)
      | inr other ↦ rw (put_away k j x (rows body beyond s) other, get_or-set_same, get_or-set_other) (grind arith)
    ]

pub rows_set : (body : List (List ℕ)) (s k x : ℕ) (beyond : ℕ → ℕ → ℕ) → s < 64 → k < 5 → length body ≡ 64 → length (get_or body s []) ≡ 5
    → rows (set body s (set (get_or body s []) k x)) beyond ≡ put s (put k x (rows body beyond s)) (rows body beyond)
rows_set body s k x beyond slot below size five = fun_ext (λ n. elim (cases_eq n s) [
  | inl same ↦ rw (put_at s n (put k x (rows body beyond s)) (rows body beyond) same, same) (fun_ext (λ j. row_at body s k x j beyond slot below size five))
  | inr other ↦ rw (put_away s n (put k x (rows body beyond s)) (rows body beyond) other) (fun_ext (λ j. rw get_or-set_other refl))
])
