-- What the search for the least lengths does at a waypoint.
use Rattle.std.specs.Prelude.{◌≡◌, ℕ, ◌+◌, ◌<◌, ◌≤◌, min, nat_le, Bool, true, false, if◌then◌else◌, List, length}
use Rattle.std.specs.Prelude.{Option, Some, None, option_map, slice_index_or}
use Rattle.arena_map.specs.Maps.{MapView}
use Rattle.bot_ways.specs.declared.search.Reached.{Reached}
use Rattle.bot_ways.specs.Edges.{edge}
use Rattle.bot_ways.specs.Walks.{length_to}

-- the lesser of two lengths, where there are any
abbrev pub lesser : Option ℕ → Option ℕ → Option ℕ
lesser None other = other
lesser (Some n) None = Some n
lesser (Some n) (Some m) = Some (min n m)

-- the length of a walk that comes to v by an edge from this waypoint
abbrev pub through : MapView → Reached → ℕ → Option ℕ
through map from v = option_map (λ step. from.length + step) (edge map from.waypoint v)

-- the edges from this waypoint have been tried: each length is the lesser of what it was and the one through the waypoint
pub record AreTried (map : MapView) (from : Reached) (old new : List (Option ℕ)) : Type 0 where
  pub count : length new ≡ length old
  pub each : (v : ℕ) → v < length old → length_to new v ≡ lesser (length_to old v) (through map from v)

-- the edges from v have been tried
abbrev pub is_settled : List Bool → ℕ → Bool
is_settled settled v = slice_index_or settled v false

-- the waypoint with its length, if it has one and its edges haven't been tried
abbrev pub open_at : List (Option ℕ) → List Bool → ℕ → Option Reached
open_at least settled v =
    if is_settled settled v
    then None
    else option_map (λ n. record { waypoint = v; length = n }) (length_to least v)

-- the one with the lesser length, the former where they are equal
abbrev pub nearer : Option Reached → Option Reached → Option Reached
nearer None other = other
nearer (Some a) None = Some a
nearer (Some a) (Some b) = if nat_le a.length b.length then Some a else Some b

-- this waypoint has this length, its edges haven't been tried, and no other such waypoint below `end` has a lesser length
pub record IsNearestOpen (end : ℕ) (least : List (Option ℕ)) (settled : List Bool) (at : Reached) : Type 0 where
  pub there : at.waypoint < length least
  pub length_is : length_to least at.waypoint ≡ Some at.length
  pub untried : is_settled settled at.waypoint ≡ false
  pub nearest : (v n : ℕ) → v < end → length_to least v ≡ Some n → is_settled settled v ≡ false → at.length ≤ n

-- the edges of all waypoints below `end` that have a length have been tried
pub record AreSettled (end : ℕ) (least : List (Option ℕ)) (settled : List Bool) : Type 0 where
  pub tried : (v n : ℕ) → v < end → length_to least v ≡ Some n → is_settled settled v ≡ true

-- the nearest waypoint below `end` whose edges haven't been tried, none where there is none
abbrev pub IsNearest : ℕ → List (Option ℕ) → List Bool → Option Reached → Type 0
IsNearest end least settled None = AreSettled end least settled
IsNearest end least settled (Some at) = IsNearestOpen end least settled at
