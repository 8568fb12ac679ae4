-- Walks along edges, and the least lengths of the walks from waypoint 0.
use Rattle.std.specs.Prelude.{◌≡◌, ℕ, ◌+◌, ◌<◌, ◌≤◌, List, [], ◌∷◌, length, Option, Some, None, slice_index_or}
use Rattle.arena_map.specs.Maps.{MapView}
use Rattle.bot_ways.specs.Edges.{edge}

-- the list is a walk of length n from one waypoint to another: a waypoint alone, of length 0, or a waypoint before a walk,
-- with an edge to its first, whose length adds to that of the walk
pub data IsWalk (map : MapView) : ℕ → ℕ → List ℕ → ℕ → Type 0 where
  alone : (u : ℕ) → u < length map.spawns → IsWalk map u u (u ∷ []) 0
  longer : (u v to step n : ℕ) (walk : List ℕ) → edge map u v ≡ Some step → IsWalk map v to walk n
      → IsWalk map u to (u ∷ walk) (step + n)

-- no walk leads from waypoint 0 to v
abbrev pub IsUnreached : MapView → ℕ → Type 0
IsUnreached map v = (walk : List ℕ) (n : ℕ) → IsWalk map 0 v walk n → ⊥

-- some walk from waypoint 0 to v has length n, and none is shorter
pub record IsShortest (map : MapView) (v n : ℕ) : Type 0 where
  pub walk : List ℕ
  pub is_walk : IsWalk map 0 v walk n
  pub least : (other : List ℕ) (m : ℕ) → IsWalk map 0 v other m → n ≤ m

-- the least length of a walk from waypoint 0 to v, none where no walk leads there
abbrev pub IsLeast : MapView → ℕ → Option ℕ → Type 0
IsLeast map v None = IsUnreached map v
IsLeast map v (Some n) = IsShortest map v n

-- the entry of a list of lengths for waypoint v, none where there is no such waypoint
abbrev pub length_to : List (Option ℕ) → ℕ → Option ℕ
length_to least v = slice_index_or least v None

-- the list has the least length for each waypoint
pub record HasLeast (map : MapView) (least : List (Option ℕ)) : Type 0 where
  pub count : length least ≡ length map.spawns
  pub each : (v : ℕ) → IsLeast map v (length_to least v)
