-- The records that the action takes are those of valid worlds.
use Rattle.std.specs.Prelude.{◌≡◌, ℕ, ◌<◌, ◌≤◌, true, List, Option, Some, None, slice_index_or}
use Rattle.entity_recs.specs.declared.rec.Rec.{Rec}
use Rattle.arena_map.specs.Maps.{MapView, IsMap}
use Rattle.arena_map.specs.Validity.{IsThing, IsStateOn, IsValidRecord, IsValidWorld}
use Rattle.arena_outcomes.specs.Takes.{thing_with, takes}

-- each record of a world that is valid for a map is taken, where its score and its number have 32 bits
abbrev pub ValidRecordsAreTaken : Type 0
ValidRecordsAreTaken =
    (arena : MapView) (records : List (Option Rec)) (id : ℕ) (r : Rec) → IsMap arena → IsValidWorld arena records
    → slice_index_or records id None ≡ Some r → r.score < 4294967296 → r.seq < 4294967296 → takes arena r ≡ true

-- the record is valid for the map at the place of its id, and as the line of its thing says
pub record IsOfWorld (arena : MapView) (r : Rec) : Type 0 where
  pub valid : IsValidRecord arena r.id r
  pub thing : 64 ≤ r.id → IsThing arena (thing_with arena r.id) (Some r)

-- each record that is taken, in a state of its kind, is such a record
abbrev pub TakenRecordsAreValid : Type 0
TakenRecordsAreValid =
    (arena : MapView) (r : Rec) → IsMap arena → takes arena r ≡ true → IsStateOn arena r.kind r.state → IsOfWorld arena r
