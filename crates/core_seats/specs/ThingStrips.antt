-- The boxes of the things of the map, and what their index must not miss.
use Rattle.std.specs.Prelude.{ℕ, ◌≡◌, ◌<◌, true, All, List, length, map, slice_index_or}
use Rattle.entity_recs.specs.declared.rec.Rec.{Rec}
use Rattle.arena_geo.specs.Bounds.{Bounds}
use Rattle.arena_geo.specs.Regions.{touches_region}
use Rattle.entity_recs.specs.Bodies.{abs_of}
use Rattle.box_strips.specs.Places.{has_place}
use Rattle.core_steps.specs.Nodes.{Fixed}
use Rattle.core_seats.specs.NearKept.{AreThings}
use Rattle.core_seats.specs.ThingBits.{AreMarked}

-- each of the boxes that touches the region has its bit among these
abbrev pub MarksBoxes : (boxes region : List Bounds) → List ℕ → Type 0
MarksBoxes boxes region bits = (k : ℕ) (d : Bounds) → k < length boxes → touches_region (slice_index_or boxes k d) region ≡ true
    → has_place bits k ≡ true

-- these are the absolute boxes of the things of the map, in rising id
abbrev pub AreThingBoxes : Fixed → List Bounds → Type 0
AreThingBoxes F boxes = (things : List Rec) → AreThings F things → boxes ≡ map abs_of things

-- each thing of the map that the region touches has its bit among these
abbrev pub MarksThings : Fixed → List Bounds → List ℕ → Type 0
MarksThings F region bits = (things : List Rec) → AreThings F things → AreMarked region (map abs_of things) bits

-- the region touches all things of the map
abbrev pub TouchesAll : Fixed → List Bounds → Type 0
TouchesAll F region = (things : List Rec) → AreThings F things → All (λ r. touches_region (abs_of r) region ≡ true) things
