-- Lists of numbers that are bytes.
use Rattle.std.specs.Prelude.{ℕ, ◌<◌, List, All, slice_index}

-- each number is a byte
abbrev pub AreBytes : List ℕ → Type 0
AreBytes bytes = All (λ b. b < 256) bytes

-- byte i, or 0 past the end
abbrev pub byte : List ℕ → ℕ → ℕ
byte bytes i = slice_index bytes i
