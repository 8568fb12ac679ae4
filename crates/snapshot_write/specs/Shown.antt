-- The snapshot of a world, as a value: what a player is shown of the live records.
use Rattle.std.specs.Prelude.{◌≡◌, ℕ, ◌==◌, Bool, true, List, map, Option, Some}
use Rattle.arena_geo.specs.Boxes.{touches}
use Rattle.entity_recs.specs.declared.kind.Kind.{Kind}
use Rattle.entity_recs.specs.declared.kind.Kind.TheVariants.{Ammo, Gem}
use Rattle.entity_recs.specs.declared.rec.Rec.{Rec}
use Rattle.entity_recs.specs.Records.{with_state}
use Rattle.entity_recs.specs.Bodies.{abs_of}
use Rattle.world_tree.specs.Live.{record_at, live_in}
use Rattle.snapshot_write.specs.declared.seen.Seen.{Seen}
use Rattle.snapshot_write.specs.declared.snapshot.Snapshot.{Snapshot}
use Rattle.snapshot_write.specs.Snapshots.{view_of, seen_by}

-- an item that was taken isn't there, and all else is
abbrev pub is_here : Kind → ℕ → Bool
is_here Ammo state = state == 0
is_here Gem state = state == 0
is_here _ _ = true

-- what is shown of a record to others
abbrev pub shown_as : Rec → Seen
shown_as r = record { id = r.id; kind = r.kind; here = is_here r.kind r.state; origin = r.origin }

-- what a player is shown in a frame, of all live records: its own record, but for its state, and what it sees
abbrev pub snapshot_shown_to : ℕ → Rec → List Rec → Snapshot
snapshot_shown_to frame me records = record { frame = frame; own = with_state me 0; seen = map shown_as (seen_by me records) }

-- a live record other than the player's own touches its view, and this is shown of it
pub record IsInSight (records : List (Option Rec)) (me : Rec) (s : Seen) : Type 0 where
  pub it : Rec
  pub live : record_at records s.id ≡ Some it
  pub other : s.id ≡ me.id → ⊥
  pub touched : touches (abs_of it) (view_of me.origin) ≡ true
  pub is : s ≡ shown_as it

-- the snapshot is that of the player in this slot of a world
pub record IsShownTo (records : List (Option Rec)) (slot : ℕ) (s : Snapshot) : Type 0 where
  pub me : Rec
  pub live : record_at records slot ≡ Some me
  pub is : s ≡ snapshot_shown_to s.frame me (live_in records)
