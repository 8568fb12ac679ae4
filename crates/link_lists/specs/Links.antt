-- How the links keep the lists of a pool.
use Rattle.std.specs.Prelude.{◌≡◌, ℕ, zero, suc, List, [], ◌∷◌, map, length, Option, Some, None, slice_index_or}
use Rattle.std.specs.Prelude.{slice_set}
use Rattle.link_lists.specs.Pool.{ListsView, IsProper, where_of, first_of, next_of}

-- what is at this place of the links: none past their end
abbrev pub link_at : List (Option ℕ) → ℕ → Option ℕ
link_at links i = slice_index_or links i None

-- the links with another one at this place, if there is such a place
abbrev pub with_link : List (Option ℕ) → Option ℕ → Option ℕ → List (Option ℕ)
with_link links None to = links
with_link links (Some i) to = slice_set links i to

-- the ids from one on, by the links to the next, and at most so many
abbrev pub walk : ℕ → List (Option ℕ) → Option ℕ → List ℕ
walk zero next at = []
walk (suc n) next None = []
walk (suc n) next (Some id) = id ∷ walk n next (link_at next id)

-- the lists that the heads and the links to the next make
abbrev pub pool_of : List (Option ℕ) → List (Option ℕ) → ListsView
pool_of heads next = record { ids = length next; lists = map (walk (length next) next) heads }

-- the links are those of the pool's lists: heads and places say which id is first and where an id is,
-- the links back are those to the next the other way round, and an id in no list has no link
pub record IsLinkedAs (heads next prev places : List (Option ℕ)) (p : ListsView) : Type 0 where
  pub proper : IsProper p
  pub list_count : length heads ≡ length p.lists
  pub next_count : length next ≡ p.ids
  pub prev_count : length prev ≡ p.ids
  pub place_count : length places ≡ p.ids
  pub firsts : (k : ℕ) → link_at heads k ≡ first_of p k
  pub nexts : (id : ℕ) → link_at next id ≡ next_of p id
  pub wheres : (id : ℕ) → link_at places id ≡ where_of p id
  pub backs : (id other : ℕ) → next_of p id ≡ Some other → link_at prev other ≡ Some id
  pub fronts : (k id : ℕ) → first_of p k ≡ Some id → link_at prev id ≡ None
  pub frees : (id : ℕ) → where_of p id ≡ None → link_at prev id ≡ None
