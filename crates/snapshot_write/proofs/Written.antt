-- How the parts of a snapshot come together.
use Rattle.std.proofs.Common.{◌≡◌, ℕ, ◌+◌, ◌*◌, ◌≤◌, List, [], ◌++◌, length, Option, Some, IfSome, sym, ap, ◌∙◌, subst, arith}
use Rattle.arena_geo.specs.Bounds.{Bounds}
use Rattle.entity_recs.specs.declared.limits.TheConstants.{IDS}
use Rattle.entity_recs.specs.declared.rec.Rec.{Rec}
use Rattle.world_tree.specs.Live.{record_at, live_in, IsEntry, AreEntries}
use Rattle.snapshot_write.specs.declared.reply_buf.TheConstants.{REPLY_ROOM}
use Rattle.snapshot_write.specs.declared.seen.TheConstants.{MOST_SEEN}
use Rattle.snapshot_write.specs.Snapshots.{view_of, in_view, snapshot, own_bytes, seen_by, seen_bytes}
use Rattle.snapshot_write.proofs.InView.{few_are_seen}

-- what holds of a record holds of the one at its place
if_at : (place : Option Rec) (me : Rec) (P : Rec → Type 0) → place ≡ Some me → P me → IfSome place P
if_at place me P at holds = subst (λ (o : Option Rec). IfSome o P) (sym at) holds

-- the record with an id, as the world gives it
pub record IsLookedUp (records : List (Option Rec)) (slot id : ℕ) (place : Option Rec) (me : Rec) : Type 0 where
  pub same : id ≡ slot
  pub looked_up : place ≡ record_at records id
  pub is : place ≡ Some me

-- it is at its place
pub at_place : (records : List (Option Rec)) (slot id : ℕ) (place : Option Rec) (me : Rec) → IsLookedUp records slot id place me → record_at records slot ≡ Some me
at_place records slot id place me up = ap (record_at records) (sym up.same) ∙ sym up.looked_up ∙ up.is

-- and is an entry with that id
pub entry_at : (records : List (Option Rec)) (slot id : ℕ) (place : Option Rec) (me : Rec) → IsLookedUp records slot id place me → AreEntries records → IsEntry slot me
entry_at records slot id place me up entries = entries slot me (at_place records slot id place me up)

-- what is in the view is what the player sees
pub seen_is : (records : List (Option Rec)) (slot id : ℕ) (place : Option Rec) (me : Rec) (view : Bounds) → IsLookedUp records slot id place me
    → AreEntries records → view ≡ view_of me.origin → in_view view id (live_in records) ≡ seen_by me (live_in records)
seen_is records slot id place me view up entries is_view =
    ap (λ box. in_view box id (live_in records)) is_view
    ∙ ap (λ n. in_view (view_of me.origin) n (live_in records)) (up.same ∙ sym (entry_at records slot id place me up entries).own_id)

-- it is few
pub few_in_view : (records : List (Option Rec)) (slot id : ℕ) (place : Option Rec) (me : Rec) (seen : List Rec) → IsLookedUp records slot id place me → length records ≡ IDS
    → seen ≡ seen_by me (live_in records) → length seen ≤ MOST_SEEN
few_in_view records slot id place me seen up places is =
    let few : length (seen_by me (live_in records)) ≤ MOST_SEEN = few_are_seen me records slot places (at_place records slot id place me up) in
    omega (arith, few, ap (λ (l : List Rec). length l) is)

-- there is room for it
pub room_for : (records : List (Option Rec)) (slot id : ℕ) (place : Option Rec) (me : Rec) (seen : List Rec) (own : ℕ) → IsLookedUp records slot id place me → length records ≡ IDS
    → seen ≡ seen_by me (live_in records) → own ≡ 41 → own + 2 + 16 * length seen ≤ REPLY_ROOM
room_for records slot id place me seen own up places is length_is =
    let few : length seen ≤ MOST_SEEN = few_in_view records slot id place me seen up places is in
    omega (arith, few, length_is)

-- the bytes of the player and those of what it sees are its snapshot
pub snapshot_is : (records : List (Option Rec)) (slot id : ℕ) (place : Option Rec) (me : Rec) (frame : ℕ) (seen : List Rec) (old own out : List ℕ) → IsLookedUp records slot id place me
    → seen ≡ seen_by me (live_in records) → old ≡ [] → own ≡ old ++ own_bytes frame me → out ≡ own ++ seen_bytes seen
    → IfSome (record_at records slot) (λ r. out ≡ snapshot frame r (live_in records))
snapshot_is records slot id place me frame seen old own out up is empty is_own is_out =
    if_at (record_at records slot) me (λ r. out ≡ snapshot frame r (live_in records)) (at_place records slot id place me up)
    (is_out ∙ ap (λ l. own ++ seen_bytes l) is ∙ ap (λ l. l ++ seen_bytes (seen_by me (live_in records))) (is_own ∙ ap (λ l. l ++ own_bytes frame me) empty))
