-- Records by id: in a list of places, the record with an id is at that place.
use Rattle.std.specs.Prelude.{◌≡◌, ℕ, suc, nat_lt, if◌then◌else◌, List, [], ◌∷◌, map, Option, Some, None, slice_index_or}
use Rattle.std.specs.List.{filter_map}
use Rattle.std.specs.Option.{option_map}
use Rattle.arena_geo.specs.Bounds.{Bounds}
use Rattle.entity_recs.specs.declared.rec.Rec.{Rec}
use Rattle.entity_recs.specs.Records.{IsRecord}
use Rattle.entity_recs.specs.Bodies.{abs_of}

-- the record with this id, if that id is live
abbrev pub record_at : List (Option Rec) → ℕ → Option Rec
record_at records id = slice_index_or records id None

-- the live records in rising id
abbrev pub live_in : List (Option Rec) → List Rec
live_in records = filter_map (λ place. place) records

-- the live ids in rising order
abbrev pub ids_of : List (Option Rec) → List ℕ
ids_of records = map (λ r. r.id) (live_in records)

-- how many numbers come before the first that isn't below this one
abbrev pub place_in : List ℕ → ℕ → ℕ
place_in [] id = 0
place_in (x ∷ xs) id = if nat_lt x id then suc (place_in xs id) else 0

-- the absolute box of the record at each place that has one
abbrev pub boxes_of : List (Option Rec) → List (Option Bounds)
boxes_of records = map (option_map abs_of) records

-- the record is within its bounds, and has this id
pub record IsEntry (id : ℕ) (r : Rec) : Type 0 where
  pub is_record : IsRecord r
  pub own_id : r.id ≡ id

-- each record is within its bounds, and is at the place of its id
abbrev pub AreEntries : List (Option Rec) → Type 0
AreEntries records = (id : ℕ) (r : Rec) → record_at records id ≡ Some r → IsEntry id r
