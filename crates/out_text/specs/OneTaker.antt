-- Who took an item, in the journals of a recording's frames.
use Rattle.std.specs.Prelude.{◌≡◌, ℕ, ◌+◌, ◌<◌, ◌≤◌, List, Option, Some, None, IsSome}
use Rattle.entity_recs.specs.declared.effect.Entry.{Entry}
use Rattle.arena_map.specs.Maps.{MapView, delay_of}
use Rattle.plain_server.specs.Takers.{HasTakenIn, IsSameEntry}

-- after how many frames the item with this id returns; without an arena there is none
abbrev pub delay_in : Option MapView → ℕ → Option ℕ
delay_in None id = None
delay_in (Some map) id = delay_of map id

-- the id is that of an item: it returns after some delay
abbrev pub IsItemIn : Option MapView → ℕ → Type 0
IsItemIn map id = IsSome (delay_in map id)

-- no two entries of one frame's journal took one item; and where an entry took an item, no other entry took it in that
-- frame and those after it, as many in all as its delay says
pub record HasOneTakerEach (map : Option MapView) (journals : List (List Entry)) : Type 0 where
  pub once : (frame place other id : ℕ) → IsItemIn map id → HasTakenIn journals frame place id
      → HasTakenIn journals frame other id → other ≡ place
  pub away : (frame place later other id delay : ℕ) → delay_in map id ≡ Some delay
      → HasTakenIn journals frame place id → HasTakenIn journals later other id
      → frame ≤ later → later < frame + delay → IsSameEntry frame place later other
