-- An index over a list of boxes by strips of an area, and what it must not miss.
use Rattle.std.specs.Prelude.{◌≡◌, ℕ, ◌<◌, ◌≤◌, ◌-◌, ◌*◌, ◌/◌, ◌^◌, true, List, length, take, drop, slice_index_or, ℤ, ◌-ℤ◌, min, unsigned_abs}
use Rattle.std.specs.Int.{int_max}
use Rattle.arena_geo.specs.Bounds.{Bounds}
use Rattle.arena_geo.specs.Boxes.{touches}
use Rattle.box_strips.specs.Places.{has_place, KeepsPlaces}

-- an axis that is cut into strips: how many, where the first one begins, and the power of 2 that is a strip's width; how
-- many words the row of a strip has; the rows of the boxes that begin in a strip or before it, one after another; and,
-- counted from the last strip, those of the boxes that end in it or after it
pub record AxisView : Type 0 where
  pub strips : ℕ
  pub from : ℤ
  pub shift : ℕ
  pub words : ℕ
  pub begun : List ℕ
  pub ended : List ℕ

-- the strips along x and along y
pub record StripsView : Type 0 where
  pub x : AxisView
  pub y : AxisView

-- the strip of a place on the axis: how many widths it is past the first, and the last one beyond it, and 0 before it
abbrev pub strip_of : AxisView → ℤ → ℕ
strip_of axis at = min (unsigned_abs (int_max at axis.from -ℤ axis.from) / 2 ^ axis.shift) (axis.strips - 1)

-- a row of so many words, of those that lie one after another
abbrev pub row_of : (words : ℕ) → List ℕ → (row : ℕ) → List ℕ
row_of words rows row = take words (drop (row * words) rows)

-- the box has its bit in this row
abbrev pub IsInRow : (words : ℕ) → List ℕ → (row place : ℕ) → Type 0
IsInRow words rows row place = has_place (row_of words rows row) place ≡ true

-- the box has its bit in this row and in each row after it
abbrev pub IsFromRow : (count words : ℕ) → List ℕ → (first place : ℕ) → Type 0
IsFromRow count words rows first place = (row : ℕ) → first ≤ row → row < count → IsInRow words rows row place

-- what is set in a row is set in that row and in each after it
abbrev pub SpreadsRows : (count words : ℕ) → List ℕ → List ℕ → Type 0
SpreadsRows count words old new = (row place : ℕ) → IsInRow words old row place → IsFromRow count words new row place

-- the box at this place, which goes from lo to hi, has its bit in the row of the strip where it begins, and in that of the
-- strip where it ends
pub record HasEnds (axis : AxisView) (place : ℕ) (lo hi : ℤ) : Type 0 where
  pub begun : IsInRow axis.words axis.begun (strip_of axis lo) place
  pub ended : IsInRow axis.words axis.ended (axis.strips - 1 - strip_of axis hi) place

-- and in each row after these
pub record HasInterval (axis : AxisView) (place : ℕ) (lo hi : ℤ) : Type 0 where
  pub begun : IsFromRow axis.strips axis.words axis.begun (strip_of axis lo) place
  pub ended : IsFromRow axis.strips axis.words axis.ended (axis.strips - 1 - strip_of axis hi) place

-- the strips are the same, and what is set in their rows stays set
pub record KeepsAxis (old new : AxisView) : Type 0 where
  pub strips : new.strips ≡ old.strips
  pub from : new.from ≡ old.from
  pub shift : new.shift ≡ old.shift
  pub words : new.words ≡ old.words
  pub begun : KeepsPlaces old.begun new.begun
  pub ended : KeepsPlaces old.ended new.ended

-- the index misses none of the boxes
pub record IsIndexOf (index : StripsView) (boxes : List Bounds) : Type 0 where
  pub x : (k : ℕ) (d : Bounds) → k < length boxes
      → HasInterval index.x k (slice_index_or boxes k d).lo.x (slice_index_or boxes k d).hi.x
  pub y : (k : ℕ) (d : Bounds) → k < length boxes
      → HasInterval index.y k (slice_index_or boxes k d).lo.y (slice_index_or boxes k d).hi.y

-- each of the boxes that touches this one has its bit
abbrev pub AreMarked : List Bounds → Bounds → List ℕ → Type 0
AreMarked boxes one bits = (k : ℕ) (d : Bounds) → k < length boxes → touches (slice_index_or boxes k d) one ≡ true
    → has_place bits k ≡ true
