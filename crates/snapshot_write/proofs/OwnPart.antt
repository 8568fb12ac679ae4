-- What a snapshot says of the player to whom it is sent.
use Rattle.std.proofs.Common.{◌≡◌, ℕ, ◌^◌, ◌<◌, List, length, Option, Some, None, refl, ap}
use Rattle.std.specs.Prelude.{Ok}
use Rattle.entity_recs.specs.declared.limits.TheConstants.{IDS}
use Rattle.entity_recs.specs.declared.rec.Rec.{Rec}
use Rattle.world_tree.specs.Live.{record_at, live_in, AreEntries}
use Rattle.snapshot_write.specs.declared.snapshot.Snapshot.{Snapshot}
use Rattle.snapshot_write.specs.declared.snap_fault.SnapFault.{SnapFault}
use Rattle.snapshot_write.specs.Snapshots.{snapshot}
use Rattle.snapshot_write.specs.Faults.{fault_of}
use Rattle.snapshot_write.specs.Reading.{snapshot_in, answer}
use Rattle.snapshot_write.specs.Shown.{snapshot_shown_to}
use Rattle.snapshot_write.specs.Laws.{HasCounts}
use Rattle.snapshot_write.specs.OwnPart.{IsOfPlayer, HasOwnFields, ShowPlayersThemselves}
use Rattle.snapshot_write.proofs.Sights.{written_read}

of_player : (frame : ℕ) (me : Rec) (records : List Rec) → IsOfPlayer frame me (snapshot_shown_to frame me records)
of_player frame me records = record {
  frame_is = refl;
  id_is = refl;
  kind_is = refl;
  origin_is = refl;
  mins_are = refl;
  maxs_are = refl;
  vel_is = refl;
  flags_are = refl;
  ammo_is = refl;
  carry_is = refl;
  score_is = refl;
  seq_is = refl;
  state_is = refl;
}

-- bytes that are read as a snapshot have its fields
fields_read : (found : Option SnapFault) (s t : Snapshot) → answer found s ≡ Ok t → s ≡ t
fields_read None s t read = cc
fields_read (Some fault) s t read = absurd cc

own_fields : (bytes : List ℕ) (frame : ℕ) (me : Rec) (records : List Rec) → bytes ≡ snapshot frame me records
    → snapshot_in bytes ≡ snapshot_shown_to frame me records → HasOwnFields frame me bytes
own_fields bytes frame me records written read = record {
  version = rw written refl;
  frame_is = ap (λ (s : Snapshot). s.frame) read;
  slot_is = ap (λ (s : Snapshot). s.own.id) read;
  origin_is = ap (λ (s : Snapshot). s.own.origin) read;
  vel_is = ap (λ (s : Snapshot). s.own.vel) read;
  flags_are = ap (λ (s : Snapshot). s.own.flags) read;
  ammo_is = ap (λ (s : Snapshot). s.own.ammo) read;
  carry_is = ap (λ (s : Snapshot). s.own.carry) read;
  score_is = ap (λ (s : Snapshot). s.own.score) read;
  seq_is = ap (λ (s : Snapshot). s.own.seq) read;
}

fields_written : (records : List (Option Rec)) (frame slot : ℕ) (me : Rec) → length records ≡ IDS → AreEntries records
    → frame < 2 ^ 32 → slot < 64 → record_at records slot ≡ Some me → HasCounts me
    → HasOwnFields frame me (snapshot frame me (live_in records))
fields_written records frame slot me places entries fits small at counts =
    let bytes = snapshot frame me (live_in records) in
    own_fields bytes frame me (live_in records) refl
    (fields_read (fault_of bytes) _ _ (written_read records frame slot me places entries fits small at counts))

pub show_players_themselves : ShowPlayersThemselves
show_players_themselves = record { value = of_player; bytes = fields_written }
