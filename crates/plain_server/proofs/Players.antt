-- The records of live ids, and those of players.
use Rattle.std.proofs.Common.{◌≡◌, ℕ, ◌<◌, List, Option, Some, None, IsSome, sym, subst, refl}
use Rattle.entity_recs.specs.declared.rec.Rec.{Rec}
use Rattle.entity_recs.specs.declared.kind.Kind.TheVariants.{Player}
use Rattle.entity_recs.proofs.Ids.{kind_of_id}
use Rattle.arena_map.specs.Maps.{MapView}
use Rattle.arena_map.specs.Validity.{IsValidRecord}
use Rattle.world_tree.specs.Live.{record_at}

-- the record of a live id
pub record IsLiveRecord (records : List (Option Rec)) (id : ℕ) : Type 0 where
  pub r : Rec
  pub at : record_at records id ≡ Some r

pub live_record : (records : List (Option Rec)) (id : ℕ) → IsSome (record_at records id) → IsLiveRecord records id
live_record records id some = by (record_at records id) refl some
  where
    by : (o : Option Rec) → record_at records id ≡ o → IsSome o → IsLiveRecord records id
    by None e h = cc
    by (Some r) e h = record { r = r; at = e }

-- the valid record of a slot is a player's
pub slot_is_player : (map : MapView) (id : ℕ) (r : Rec) → IsValidRecord map id r → id < 64 → r.kind ≡ Player
slot_is_player map id r valid below = kind_of_id r.kind r.id valid.is_record.id (subst (λ (k : ℕ). k < 64) (sym valid.own_id) below)
