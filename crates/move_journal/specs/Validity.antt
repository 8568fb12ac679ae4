-- When moves keep a world's records within bounds. What else an action takes for granted of records is a test.
use Rattle.std.specs.Prelude.{◌≡◌, ℕ, Bool, true, List, All, Contains}
use Rattle.std.specs.List.{AllPass}
use Rattle.entity_recs.specs.declared.rec.Rec.{Rec}
use Rattle.entity_recs.specs.Records.{IsRecord, with_state}
use Rattle.entity_recs.specs.Commands.{Command}
use Rattle.entity_recs.specs.Worlds.{World, records_of, HasRecordsInBounds}
use Rattle.entity_recs.specs.Histories.{Action, outcome}

-- a world whose records are within bounds, and all live ones pass the test
pub record HasRecordsThatPass (takes : Rec → Bool) (w : World) : Type 0 where
  pub valid : HasRecordsInBounds w
  pub taken : AllPass takes (records_of w)

-- a player's record after its move: it has the player's id, is within its bounds, and passes the test
pub record IsKept (takes : Rec → Bool) (slot : ℕ) (me : Rec) : Type 0 where
  pub own : me.id ≡ slot
  pub bounds : IsRecord me
  pub taken : takes me ≡ true

-- in each world with these live ids whose records are within bounds and pass the test, each of these commands keeps the
-- record of a live player; no state decides what passes
pub record KeepsRecords (act : Action) (takes : Rec → Bool) (ids : List ℕ) (commands : List Command) : Type 0 where
  pub any_state : (r : Rec) (state : ℕ) → takes (with_state r state) ≡ takes r
  pub players : (w : World) → w.ids ≡ ids → HasRecordsThatPass takes w
      → All (λ c. Contains ids c.slot → IsKept takes c.slot (outcome act w c).me) commands

-- a new world has such records, and the same ids are live as in the old one
pub record KeepsRecordsThatPass (takes : Rec → Bool) (old new : World) : Type 0 where
  pub holds : HasRecordsThatPass takes new
  pub ids : new.ids ≡ old.ids
