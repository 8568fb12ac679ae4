-- Bits of the things of the map, each by its place among them, and the things that a region touches, by their absolute
-- boxes.
use Rattle.std.specs.Prelude.{ℕ, ◌≡◌, ◌<◌, ◌≤◌, ◌*◌, true, false, List, length, slice_index_or}
use Rattle.arena_geo.specs.Bounds.{Bounds}
use Rattle.arena_geo.specs.Regions.{touches_region}
use Rattle.box_strips.specs.Places.{has_place}
use Rattle.core_seats.specs.declared.thing_bits.TheConstants.{THING_WORDS}

-- each thing that the region touches has its bit, and there are places for all
pub record AreMarked (region boxes : List Bounds) (bits : List ℕ) : Type 0 where
  pub few : length boxes ≤ 64 * THING_WORDS
  pub each : (k : ℕ) (d : Bounds) → k < length boxes → touches_region (slice_index_or boxes k d) region ≡ true
      → has_place bits k ≡ true

-- the region touches none of the things from the first place on and before the second one
abbrev pub AreApart : (region boxes : List Bounds) → (from to : ℕ) → Type 0
AreApart region boxes from to = (k : ℕ) (d : Bounds) → from ≤ k → k < to → k < length boxes
    → touches_region (slice_index_or boxes k d) region ≡ false

-- the thing at this place is the first from another place on that the region touches
pub record IsNextThing (region boxes : List Bounds) (from place : ℕ) : Type 0 where
  pub least : from ≤ place
  pub within : place < length boxes
  pub touches : (d : Bounds) → touches_region (slice_index_or boxes place d) region ≡ true
  pub apart : AreApart region boxes from place
