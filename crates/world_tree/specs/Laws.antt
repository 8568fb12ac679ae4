-- What holds of every linked world.
use Rattle.std.specs.Prelude.{◌≡◌, ℕ, List, map, is_some}
use Rattle.std.specs.List.{filter_map}
use Rattle.std.specs.List.Sorted.{IsStrictlyIncreasing}
use Rattle.link_lists.specs.Pool.{has}
use Rattle.arena_geo.specs.Bounds.{Bounds}
use Rattle.entity_recs.specs.declared.rec.Rec.{Rec}
use Rattle.world_tree.specs.Queries.{near_in, touching_in}
use Rattle.world_tree.specs.Live.{live_in, ids_of}
use Rattle.world_tree.specs.Worlds.{WorldView, record_of, IsLinked}

-- the live ids rise
abbrev pub LiveIdsRise : Type 0
LiveIdsRise = (w : WorldView) → IsLinked w → IsStrictlyIncreasing (ids_of w.records)

-- an id is among the live ids exactly where it has a record
abbrev pub LiveIdsHaveRecords : Type 0
LiveIdsHaveRecords = (w : WorldView) → IsLinked w → (id : ℕ) → has (ids_of w.records) id ≡ is_some (record_of w id)

-- the live records in rising id are those of the live ids in rising order
abbrev pub LiveRecordsById : Type 0
LiveRecordsById = (w : WorldView) → IsLinked w → live_in w.records ≡ filter_map (record_of w) (ids_of w.records)

-- the ids of records rise
abbrev pub HaveRisingIds : List Rec → Type 0
HaveRisingIds records = IsStrictlyIncreasing (map (λ r. r.id) records)

-- the records that are near a region have rising ids
abbrev pub NearIdsRise : Type 0
NearIdsRise =
    (w : WorldView) (region : List Bounds) (except : ℕ) → IsLinked w → HaveRisingIds (near_in w.records region except)

-- and so have the triggers that touch a box
abbrev pub TouchingIdsRise : Type 0
TouchingIdsRise = (w : WorldView) (abs : Bounds) → IsLinked w → HaveRisingIds (touching_in w.records abs)
