-- What bytes are read as.
use Rattle.std.specs.Prelude.{ℕ, ◌==◌, List, map, Option, Some, None, Result, Ok, Err}
use Rattle.entity_recs.specs.declared.kind.Kind.TheVariants.{Player}
use Rattle.entity_recs.specs.declared.rec.Rec.{Rec}
use Rattle.entity_recs.specs.declared.bodies.TheConstants.{PLAYER_MINS, PLAYER_MAXS}
use Rattle.byte_lists.specs.Bytes.{byte}
use Rattle.snapshot_write.specs.declared.seen.Seen.{Seen}
use Rattle.snapshot_write.specs.declared.snapshot.Snapshot.{Snapshot}
use Rattle.snapshot_write.specs.declared.snap_fault.SnapFault.{SnapFault}
use Rattle.snapshot_write.specs.Fields.{number_at, vector_at, blocks_in, id_in, kind_of}
use Rattle.snapshot_write.specs.Faults.{fault_of}

-- the player's own record: its body is a player's and its state 0, which aren't in the bytes
abbrev pub own_in : List ℕ → Rec
own_in bytes = record {
  id = byte bytes 5;
  kind = Player;
  origin = vector_at bytes 6;
  mins = PLAYER_MINS;
  maxs = PLAYER_MAXS;
  vel = vector_at bytes 18;
  flags = byte bytes 30;
  ammo = byte bytes 31;
  carry = byte bytes 32;
  score = number_at bytes 33;
  seq = number_at bytes 37;
  state = 0;
}

-- the entity of a block, which is there where its status is 1
abbrev pub seen_in : List ℕ → Seen
seen_in block = record {
  id = id_in block;
  kind = kind_of (byte block 2);
  here = byte block 3 == 1;
  origin = vector_at block 4;
}

-- the snapshot whose fields are in the bytes at their places
abbrev pub snapshot_in : List ℕ → Snapshot
snapshot_in bytes = record { frame = number_at bytes 1; own = own_in bytes; seen = map seen_in (blocks_in bytes) }

-- the fault where there is one, and else the snapshot
abbrev pub answer : Option SnapFault → Snapshot → Result Snapshot SnapFault
answer None s = Ok s
answer (Some fault) s = Err fault

-- what the bytes are read as
abbrev pub reading : List ℕ → Result Snapshot SnapFault
reading bytes = answer (fault_of bytes) (snapshot_in bytes)
