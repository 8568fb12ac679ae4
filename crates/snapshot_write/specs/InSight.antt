-- What a snapshot shows, in numbers: whose body comes near enough to the player, and what is said of it.
use Rattle.std.specs.Prelude.{◌≡◌, ◌≢◌, ◌↔◌, ℕ, true, false, List, Contains, Option, Some, ℤ, pos, ◌+ℤ◌, ◌-ℤ◌, ◌≤ℤ◌}
use Rattle.entity_recs.specs.declared.kind.Kind.TheVariants.{Ammo, Gem}
use Rattle.entity_recs.specs.declared.rec.Rec.{Rec}
use Rattle.entity_recs.specs.Laws.{IsItem}
use Rattle.world_tree.specs.Live.{record_at, live_in, AreEntries}
use Rattle.snapshot_write.specs.declared.seen.Seen.{Seen}
use Rattle.snapshot_write.specs.Shown.{snapshot_shown_to}

-- what begins and ends so on an axis comes as near as this to a place, or nearer
pub record ComesWithin (far : ℕ) (place begins ends : ℤ) : Type 0 where
  pub begins_soon : begins ≤ℤ (place +ℤ pos far)
  pub ends_late : (place -ℤ pos far) ≤ℤ ends

-- the body of a record comes as near as this to a player's origin, so much on x and y and so much on z
pub record IsBodyWithin (flat high : ℕ) (me it : Rec) : Type 0 where
  pub x : ComesWithin flat me.origin.x (it.origin.x +ℤ it.mins.x) (it.origin.x +ℤ it.maxs.x)
  pub y : ComesWithin flat me.origin.y (it.origin.y +ℤ it.mins.y) (it.origin.y +ℤ it.maxs.y)
  pub z : ComesWithin high me.origin.z (it.origin.z +ℤ it.mins.z) (it.origin.z +ℤ it.maxs.z)

-- a player sees a thing 262,144 far on x and y and 131,072 on z, and 256 farther, but an item 3,840 farther on x and y
-- alone
pub record IsWithinSight (me it : Rec) : Type 0 where
  pub item : IsItem it.kind → IsBodyWithin 265984 131072 me it
  pub other : it.kind ≢ Ammo → it.kind ≢ Gem → IsBodyWithin 262400 131328 me it

-- this is shown of a live record other than the player's own, which is within sight: its id, its kind, its origin, and
-- whether it is there, which all is but an item whose state isn't 0
pub record IsOfOneInSight (records : List (Option Rec)) (me : Rec) (s : Seen) : Type 0 where
  pub it : Rec
  pub live : record_at records s.id ≡ Some it
  pub other : s.id ≢ me.id
  pub near : IsWithinSight me it
  pub kind_is : s.kind ≡ it.kind
  pub origin_is : s.origin ≡ it.origin
  pub away : IsItem it.kind → it.state ≢ 0 → s.here ≡ false
  pub item_there : IsItem it.kind → it.state ≡ 0 → s.here ≡ true
  pub there : it.kind ≢ Ammo → it.kind ≢ Gem → s.here ≡ true

-- the snapshot of a player of a world shows exactly what is within its sight
abbrev pub ShowWhatIsWithinSight : Type 0
ShowWhatIsWithinSight =
    (records : List (Option Rec)) (frame slot : ℕ) (me : Rec) → AreEntries records → record_at records slot ≡ Some me
    → (s : Seen) → Contains (snapshot_shown_to frame me (live_in records)).seen s ↔ IsOfOneInSight records me s
