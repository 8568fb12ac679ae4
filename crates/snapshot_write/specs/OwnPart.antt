-- What a snapshot says of the player to whom it is sent, field by field.
use Rattle.std.specs.Prelude.{◌≡◌, ℕ, ◌^◌, ◌<◌, List, length, Option, Some}
use Rattle.entity_recs.specs.declared.limits.TheConstants.{IDS}
use Rattle.entity_recs.specs.declared.rec.Rec.{Rec}
use Rattle.byte_lists.specs.Bytes.{byte}
use Rattle.world_tree.specs.Live.{record_at, live_in, AreEntries}
use Rattle.snapshot_write.specs.declared.snapshot.Snapshot.{Snapshot}
use Rattle.snapshot_write.specs.Fields.{number_at, vector_at}
use Rattle.snapshot_write.specs.Snapshots.{snapshot}
use Rattle.snapshot_write.specs.Shown.{snapshot_shown_to}
use Rattle.snapshot_write.specs.Laws.{HasCounts}

-- the snapshot is of this frame, and its own record is the player's with state 0
pub record IsOfPlayer (frame : ℕ) (me : Rec) (s : Snapshot) : Type 0 where
  pub frame_is : s.frame ≡ frame
  pub id_is : s.own.id ≡ me.id
  pub kind_is : s.own.kind ≡ me.kind
  pub origin_is : s.own.origin ≡ me.origin
  pub mins_are : s.own.mins ≡ me.mins
  pub maxs_are : s.own.maxs ≡ me.maxs
  pub vel_is : s.own.vel ≡ me.vel
  pub flags_are : s.own.flags ≡ me.flags
  pub ammo_is : s.own.ammo ≡ me.ammo
  pub carry_is : s.own.carry ≡ me.carry
  pub score_is : s.own.score ≡ me.score
  pub seq_is : s.own.seq ≡ me.seq
  pub state_is : s.own.state ≡ 0

-- the bytes have the frame and the player's fields at their places: the first byte is the version
pub record HasOwnFields (frame : ℕ) (me : Rec) (bytes : List ℕ) : Type 0 where
  pub version : byte bytes 0 ≡ 1
  pub frame_is : number_at bytes 1 ≡ frame
  pub slot_is : byte bytes 5 ≡ me.id
  pub origin_is : vector_at bytes 6 ≡ me.origin
  pub vel_is : vector_at bytes 18 ≡ me.vel
  pub flags_are : byte bytes 30 ≡ me.flags
  pub ammo_is : byte bytes 31 ≡ me.ammo
  pub carry_is : byte bytes 32 ≡ me.carry
  pub score_is : number_at bytes 33 ≡ me.score
  pub seq_is : number_at bytes 37 ≡ me.seq

-- each player is shown the frame and itself as it is, but for its state: as a value, and in the bytes of a player of a
-- world
pub record ShowPlayersThemselves : Type 0 where
  pub value : (frame : ℕ) (me : Rec) (records : List Rec) → IsOfPlayer frame me (snapshot_shown_to frame me records)
  pub bytes : (records : List (Option Rec)) (frame slot : ℕ) (me : Rec) → length records ≡ IDS → AreEntries records
      → frame < 2 ^ 32 → slot < 64 → record_at records slot ≡ Some me → HasCounts me
      → HasOwnFields frame me (snapshot frame me (live_in records))
