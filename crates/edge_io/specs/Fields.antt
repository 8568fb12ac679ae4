-- The fields of a line, which single spaces separate.
use Rattle.std.specs.Prelude.{ℕ, Bool, ◌==◌, List, [], ◌∷◌, Option, Some, None, ◌++◌, codes, take, drop, length}
use Rattle.std.specs.Prelude.{position, unwrap_or, if◌then◌else◌}

-- f of the value, where there is one
infixl 10 ◌>>=◌
abbrev pub ◌>>=◌ : {A B : Type 0} → Option A → (A → Option B) → Option B
None >>= f = None
(Some x) >>= f = f x

-- the byte is a space
abbrev pub is_space : ℕ → Bool
is_space b = b == 32

-- what is before the first space, and the rest, which begins with that space
abbrev pub cut : List ℕ → List ℕ × List ℕ
cut bytes = (
  take (unwrap_or (position is_space bytes) (length bytes)) bytes,
  drop (unwrap_or (position is_space bytes) (length bytes)) bytes,
)

-- the field after a space, and the rest
abbrev pub field_at : List ℕ → Option (List ℕ × List ℕ)
field_at [] = None
field_at (b ∷ bytes) = if is_space b then Some (cut bytes) else None

-- the text of a field after the one before it: a space and the field
abbrev pub field_text : List ℕ → List ℕ
field_text field = codes " " ++ field
