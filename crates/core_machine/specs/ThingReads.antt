-- What a seat has read, and is still to read, of the states of things of the map.
use Rattle.std.specs.Prelude.{ℕ, ◌≤◌, List, length}
use Rattle.entity_recs.specs.declared.effect.NewState.{NewState}

-- for how many things there is room, the states that are loaded, the newest first, and the things whose states are still
-- to be loaded, in the order in which they come
pub record ReadsView : Type 0 where
  pub room : ℕ
  pub states : List NewState
  pub ids : List ℕ

-- there is room for as many states and as many things as is said, and no more things were listed
pub record AreReads (room room_of_states room_of_ids from : ℕ) (ids : List ℕ) : Type 0 where
  pub states_fit : room ≤ room_of_states
  pub ids_fit : room ≤ room_of_ids
  pub within : from ≤ length ids
