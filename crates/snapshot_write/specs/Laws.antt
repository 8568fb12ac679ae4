-- What holds of snapshots: of their spellings and faults, and of what they show.
use Rattle.std.specs.Prelude.{◌≡◌, ◌↔◌, ℕ, ◌^◌, ◌<◌, List, Contains, length, Option, Some, None, Ok, Err}
use Rattle.entity_recs.specs.declared.limits.TheConstants.{IDS}
use Rattle.entity_recs.specs.declared.rec.Rec.{Rec}
use Rattle.world_tree.specs.Live.{record_at, live_in, AreEntries}
pub use Rattle.byte_lists.specs.Bytes.{AreBytes}
use Rattle.snapshot_write.specs.declared.reply_buf.TheConstants.{REPLY_ROOM}
use Rattle.snapshot_write.specs.declared.seen.Seen.{Seen}
use Rattle.snapshot_write.specs.declared.seen.TheConstants.{MOST_SEEN}
use Rattle.snapshot_write.specs.declared.snapshot.Snapshot.{Snapshot}
use Rattle.snapshot_write.specs.declared.snap_fault.SnapFault.{SnapFault}
use Rattle.snapshot_write.specs.Snapshots.{snapshot}
use Rattle.snapshot_write.specs.Spelling.{spelling, IsSnapshot, Spells}
use Rattle.snapshot_write.specs.Faults.{fault_of}
use Rattle.snapshot_write.specs.Reading.{reading}
use Rattle.snapshot_write.specs.Shown.{snapshot_shown_to, IsInSight, IsShownTo}

-- the bytes spell some snapshot
pub record SpellsSome (bytes : List ℕ) : Type 0 where
  pub snapshot : Snapshot
  pub spells : Spells bytes snapshot

-- bytes have no fault exactly where they spell some snapshot
abbrev pub NoFaultWhereSpelled : Type 0
NoFaultWhereSpelled = (bytes : List ℕ) → AreBytes bytes → (fault_of bytes ≡ None) ↔ SpellsSome bytes

-- a snapshot has one spelling, and no two snapshots have the same
pub record OneSpelling : Type 0 where
  pub of_a_snapshot : (s : Snapshot) (a b : List ℕ) → Spells a s → Spells b s → a ≡ b
  pub of_no_other : (s t : Snapshot) → IsSnapshot s → IsSnapshot t → spelling s ≡ spelling t → s ≡ t

-- bytes are read as a snapshot exactly where they spell it, and else as their fault
pub record ReadWhereSpelled : Type 0 where
  pub snapshot : (bytes : List ℕ) → AreBytes bytes → (s : Snapshot) → (reading bytes ≡ Ok s) ↔ Spells bytes s
  pub fault : (bytes : List ℕ) (fault : SnapFault) → (reading bytes ≡ Err fault) ↔ (fault_of bytes ≡ Some fault)

-- the gems that the player has brought, and the number of its last command, are of 32 bits
pub record HasCounts (me : Rec) : Type 0 where
  pub score : me.score < 2 ^ 32
  pub seq : me.seq < 2 ^ 32

-- the snapshot of a player of a world is read as the frame, its own record and what it sees
abbrev pub WrittenSnapshotsAreRead : Type 0
WrittenSnapshotsAreRead =
    (records : List (Option Rec)) (frame slot : ℕ) (me : Rec) → length records ≡ IDS → AreEntries records
    → frame < 2 ^ 32 → slot < 64 → record_at records slot ≡ Some me → HasCounts me
    → reading (snapshot frame me (live_in records)) ≡ Ok (snapshot_shown_to frame me (live_in records))

-- the snapshot of a player of a world shows exactly who is in its sight, and nothing else
abbrev pub ShowWhoIsInSight : Type 0
ShowWhoIsInSight =
    (records : List (Option Rec)) (frame slot : ℕ) (me : Rec) → AreEntries records → record_at records slot ≡ Some me
    → (s : Seen) → Contains (snapshot_shown_to frame me (live_in records)).seen s ↔ IsInSight records me s

-- two players of a world see a third in one place, and each other where they see themselves
pub record AgreeOnOrigins : Type 0 where
  pub third : (records : List (Option Rec)) → AreEntries records → (a b : ℕ) (s t : Snapshot)
      → IsShownTo records a s → IsShownTo records b t → (p q : Seen) → Contains s.seen p → Contains t.seen q
      → p.id ≡ q.id → p ≡ q
  pub each_other : (records : List (Option Rec)) → AreEntries records → (a b : ℕ) (s t : Snapshot)
      → IsShownTo records a s → IsShownTo records b t → (p : Seen) → Contains s.seen p
      → p.id ≡ t.own.id → p.origin ≡ t.own.origin

-- the numbers that the lists of bytes and of entities cite
pub record LimitsAreKnown : Type 0 where
  pub reply_room : REPLY_ROOM ≡ 8219
  pub most_seen : MOST_SEEN ≡ 511
