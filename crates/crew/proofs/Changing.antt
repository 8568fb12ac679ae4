-- What the turns of a round do to a slice, put together.
use Rattle.std.proofs.Common.{◌≡◌, ℕ, zero, suc, ◌<◌, List, [], ◌∷◌, ◌++◌, length, take, drop, get_or, ap, refl, subst, sym, arith}
use Rattle.std.proofs.lemmas.List.{take-append-drop}
use Rattle.crew.specs.Rounds.{AreChanges, ChangesEach}

module _ {T : Type 0} (changes : T → T → Type 0) where
  pub changes_append : (xs ys us vs : List T) → AreChanges changes xs us → AreChanges changes ys vs → AreChanges changes (xs ++ ys) (us ++ vs)
  changes_append [] ys [] vs p q = q
  changes_append [] ys (u ∷ us) vs p q = absurd p
  changes_append (x ∷ xs) ys [] vs p q = absurd p
  changes_append (x ∷ xs) ys (u ∷ us) vs p q = (p.0, changes_append xs ys us vs p.1 q)

  changes_count : (xs ys : List T) → AreChanges changes xs ys → length ys ≡ length xs
  changes_count [] [] p = refl
  changes_count [] (y ∷ ys) p = absurd p
  changes_count (x ∷ xs) [] p = absurd p
  changes_count (x ∷ xs) (y ∷ ys) p = ap suc (changes_count xs ys p.1)

  changes_at : (xs ys : List T) → AreChanges changes xs ys → (i : ℕ) (d : T) → i < length xs → changes (get_or xs i d) (get_or ys i d)
  changes_at [] ys p i d h = absurd (omega arith)
  changes_at (x ∷ xs) [] p i d h = absurd p
  changes_at (x ∷ xs) (y ∷ ys) p zero d h = p.0
  changes_at (x ∷ xs) (y ∷ ys) p (suc i) d h = changes_at xs ys p.1 i d (omega arith)

  pub changes_each : (xs ys : List T) → AreChanges changes xs ys → ChangesEach changes xs ys
  changes_each xs ys p = record { count = changes_count xs ys p; each = changes_at xs ys p }

  -- no item
  pub changes_none : (xs : List T) → length xs ≡ 0 → AreChanges changes xs xs
  changes_none [] e = tt
  changes_none (x ∷ xs) e = absurd (omega arith)

  -- one item, and the others
  pub changes_first : (xs : List T) (x y : T) (rest us : List T) → xs ≡ x ∷ rest → changes x y → AreChanges changes rest us → AreChanges changes xs (y ∷ us)
  changes_first xs x y rest us e p q = subst (λ (zs : List T). AreChanges changes zs (y ∷ us)) (sym e) (p, q)

  -- those of a turn, and the later ones
  pub changes_turn : (xs : List T) (n : ℕ) (us vs : List T) → AreChanges changes (take n xs) us → AreChanges changes (drop n xs) vs → AreChanges changes xs (us ++ vs)
  changes_turn xs n us vs p q = subst (λ (zs : List T). AreChanges changes zs (us ++ vs)) (take-append-drop n xs) (changes_append (take n xs) (drop n xs) us vs p q)
