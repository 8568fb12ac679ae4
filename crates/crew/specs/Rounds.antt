-- What a round does to a slice.
use Rattle.std.specs.Prelude.{◌≡◌, ℕ, ◌<◌, List, [], ◌∷◌, length, slice_index_or}

module _ {T : Type 0} (changes : T → T → Type 0) where
  -- each is a change of the one at its place
  abbrev pub AreChanges : List T → List T → Type 0
  AreChanges [] [] = Unit {0}
  AreChanges [] (y ∷ ys) = ⊥
  AreChanges (x ∷ xs) [] = ⊥
  AreChanges (x ∷ xs) (y ∷ ys) = changes x y × AreChanges xs ys

  -- the same by index, and there are as many
  pub record ChangesEach (xs ys : List T) : Type 0 where
    pub count : length ys ≡ length xs
    pub each : (i : ℕ) (d : T) → i < length xs → changes (slice_index_or xs i d) (slice_index_or ys i d)
