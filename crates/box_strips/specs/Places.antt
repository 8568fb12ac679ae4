-- Bits of places in a list, in words of 64.
use Rattle.std.specs.Prelude.{ℕ, ◌≡◌, ◌<◌, ◌≤◌, ◌/◌, ◌%◌, ◌==◌, Bool, true, false, List, slice_index_or}
use Rattle.std.specs.Int.{bit_at}

-- the bit of this number is set in the word
abbrev pub has_bit : ℕ → ℕ → Bool
has_bit word i = bit_at word i == 1

-- the bit of this place is set
abbrev pub has_place : List ℕ → ℕ → Bool
has_place bits place = has_bit (slice_index_or bits (place / 64) 0) (place % 64)

-- what is set stays set
abbrev pub KeepsPlaces : List ℕ → List ℕ → Type 0
KeepsPlaces old new = (place : ℕ) → has_place old place ≡ true → has_place new place ≡ true

-- no bit from this one on is set
abbrev pub NoBitFrom : ℕ → ℕ → Type 0
NoBitFrom word from = (i : ℕ) → from ≤ i → i < 64 → has_bit word i ≡ false

-- the first bit from this one on that is set
pub record IsNextBit (word from bit : ℕ) : Type 0 where
  pub least : from ≤ bit
  pub within : bit < 64
  pub set : has_bit word bit ≡ true
  pub none : (i : ℕ) → from ≤ i → i < bit → has_bit word i ≡ false

-- no place from the first one on and before the second one has its bit
abbrev pub NoPlaceIn : List ℕ → (from to : ℕ) → Type 0
NoPlaceIn bits from to = (place : ℕ) → from ≤ place → place < to → has_place bits place ≡ false

-- the first place from one on and before another that has its bit
pub record IsNextPlace (bits : List ℕ) (from to place : ℕ) : Type 0 where
  pub least : from ≤ place
  pub within : place < to
  pub set : has_place bits place ≡ true
  pub none : NoPlaceIn bits from place
