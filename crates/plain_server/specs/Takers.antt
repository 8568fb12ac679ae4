-- Who took an item: the entries of journals that have its id.
use Rattle.std.specs.Prelude.{◌≡◌, ℕ, ◌+◌, List, Option, Some, IsSome, Contains, slice_get}
use Rattle.entity_recs.specs.declared.effect.Entry.{Entry}
use Rattle.entity_recs.specs.declared.rec.Rec.{Rec}
use Rattle.arena_map.specs.Maps.{MapView, delay_of}
use Rattle.world_tree.specs.Live.{record_at}

-- the id is that of an item of the map: it returns after some delay
abbrev pub IsItemOf : MapView → ℕ → Type 0
IsItemOf map id = IsSome (delay_of map id)

-- the entry at this place in a journal has this id among those that it got
pub record HasTaken (journal : List Entry) (place id : ℕ) : Type 0 where
  pub entry : Entry
  pub in_place : slice_get journal place ≡ Some entry
  pub got : Contains entry.reply.got id

-- the entry at this place in the journal of the frame with this number has this id among those that it got
pub record HasTakenIn (journals : List (List Entry)) (frame place id : ℕ) : Type 0 where
  pub journal : List Entry
  pub of_frame : slice_get journals frame ≡ Some journal
  pub taken : HasTaken journal place id

-- two entries are one: they have one place in one frame
pub record IsSameEntry (frame place later other : ℕ) : Type 0 where
  pub frame_is : later ≡ frame
  pub place_is : other ≡ place

-- the record with this id is live, in this state
pub record IsInState (records : List (Option Rec)) (id state : ℕ) : Type 0 where
  pub now : Rec
  pub at : record_at records id ≡ Some now
  pub state_is : now.state ≡ state

-- no two entries of a journal took one item of the map
abbrev pub HasOneTaker : MapView → List Entry → Type 0
HasOneTaker map journal =
    (place other id : ℕ) → IsItemOf map id → HasTaken journal place id → HasTaken journal other id → other ≡ place

-- each item that an entry of this frame's journal took is away, until its delay is over
abbrev pub HasItemsAway : MapView → ℕ → List Entry → List (Option Rec) → Type 0
HasItemsAway map frame journal records =
    (place id delay : ℕ) → HasTaken journal place id → delay_of map id ≡ Some delay
    → IsInState records id (frame + delay)
