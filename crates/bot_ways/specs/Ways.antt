-- The way to a waypoint, and what shows that lengths are the least ones.
use Rattle.std.specs.Prelude.{◌≡◌, ◌≢◌, ℕ, ◌+◌, ◌<◌, ◌≤◌, List, [], ◌∷◌, ◌++◌, length, Option, Some, None}
use Rattle.arena_map.specs.Maps.{MapView}
use Rattle.bot_ways.specs.Edges.{edge}
use Rattle.bot_ways.specs.Walks.{length_to}

-- an edge leads from u to v, and the lengths of the two differ by its length
pub record IsBefore (map : MapView) (least : List (Option ℕ)) (u v : ℕ) : Type 0 where
  pub here : ℕ
  pub step : ℕ
  pub from : length_to least u ≡ Some here
  pub edge_is : edge map u v ≡ Some step
  pub to : length_to least v ≡ Some (here + step)

-- u is the least such waypoint
pub record IsLeastBefore (map : MapView) (least : List (Option ℕ)) (u v : ℕ) : Type 0 where
  pub before : IsBefore map least u v
  pub first : (w : ℕ) → IsBefore map least w v → u ≤ w

-- the way to waypoint 0 is that waypoint alone, and the way to another is the way to the least waypoint before it and
-- then the waypoint itself
pub data IsWay (map : MapView) (least : List (Option ℕ)) : ℕ → List ℕ → Type 0 where
  start : IsWay map least 0 (0 ∷ [])
  next : (u v : ℕ) (way : List ℕ) → IsLeastBefore map least u v → IsWay map least u way
      → IsWay map least v (way ++ v ∷ [])

-- there is a length, and it is at most this number
abbrev pub IsAtMost : ℕ → Option ℕ → Type 0
IsAtMost most None = ⊥
IsAtMost most (Some n) = n ≤ most

-- some waypoint is before v
pub record HasBefore (map : MapView) (least : List (Option ℕ)) (v : ℕ) : Type 0 where
  pub waypoint : ℕ
  pub before : IsBefore map least waypoint v

-- what shows that lengths are the least ones: waypoint 0 has length 0, no edge leads to a length that is more than the sum
-- of the length where it begins and its own, and each other waypoint with a length has one before it
pub record IsCertificate (map : MapView) (least : List (Option ℕ)) : Type 0 where
  pub count : length least ≡ length map.spawns
  pub start : 0 < length map.spawns → length_to least 0 ≡ Some 0
  pub closed : (u v here step : ℕ) → length_to least u ≡ Some here → edge map u v ≡ Some step
      → IsAtMost (here + step) (length_to least v)
  pub tight : (v n : ℕ) → length_to least v ≡ Some n → v ≢ 0 → HasBefore map least v

-- the least waypoint before v, none where there is none
abbrev pub IsFirstBefore : MapView → List (Option ℕ) → ℕ → Option ℕ → Type 0
IsFirstBefore map least v None = HasBefore map least v → ⊥
IsFirstBefore map least v (Some u) = IsLeastBefore map least u v
