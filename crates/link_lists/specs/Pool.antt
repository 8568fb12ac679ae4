-- The lists over one pool of ids, and the lists after each call.
use Rattle.std.specs.Prelude.{◌≡◌, ◌≢◌, ℕ, ◌<◌, Bool, not, if◌then◌else◌, List, [], ◌∷◌, map, replicate, Option, None}
use Rattle.std.specs.Prelude.{IsTrue, nat_eq, slice_get, slice_index_or, slice_set, filter, position}
use Rattle.std.specs.List.{list_any, IsDistinct}
use Rattle.std.specs.Option.{option_and_then}

-- how many ids there are, and the ids of each list in order
pub record ListsView : Type 0 where
  pub ids : ℕ
  pub lists : List (List ℕ)

-- the ids of list k, and none where there is no such list
abbrev pub list_of : ListsView → ℕ → List ℕ
list_of p k = slice_index_or p.lists k []

-- whether the id is among these
abbrev pub has : List ℕ → ℕ → Bool
has ids id = list_any (nat_eq id) ids

-- the id that comes right after this one, if there is one
abbrev pub after : ℕ → List ℕ → Option ℕ
after id [] = None
after id (x ∷ xs) = if nat_eq id x then slice_get xs 0 else after id xs

-- the ids without this one, the others in their order
abbrev pub without : ℕ → List ℕ → List ℕ
without id ids = filter (λ other. not (nat_eq id other)) ids

-- the list that has the id, if one has
abbrev pub where_of : ListsView → ℕ → Option ℕ
where_of p id = position (λ ids. has ids id) p.lists

-- the first id of list k, if it has one
abbrev pub first_of : ListsView → ℕ → Option ℕ
first_of p k = slice_get (list_of p k) 0

-- the id that comes after this one in its list, if there is one
abbrev pub next_of : ListsView → ℕ → Option ℕ
next_of p id = option_and_then (λ k. after id (list_of p k)) (where_of p id)

-- so many ids and lists, and no id in any list
abbrev pub empty_pool : ℕ → ℕ → ListsView
empty_pool ids lists = record { ids = ids; lists = replicate lists [] }

-- the id is now the first of list k
abbrev pub lists_after_insert : ListsView → ℕ → ℕ → ListsView
lists_after_insert p k id = record { ids = p.ids; lists = slice_set p.lists k (id ∷ list_of p k) }

-- the id is now in no list
abbrev pub lists_after_remove : ListsView → ℕ → ListsView
lists_after_remove p id = record { ids = p.ids; lists = map (without id) p.lists }

-- each id in a list is one of the pool's, and is in that list once and in no other
pub record IsProper (p : ListsView) : Type 0 where
  pub in_range : (k id : ℕ) → IsTrue (has (list_of p k) id) → id < p.ids
  pub once : (k : ℕ) → IsDistinct nat_eq (list_of p k)
  pub apart : (j k id : ℕ) → IsTrue (has (list_of p j) id) → IsTrue (has (list_of p k) id) → j ≡ k

-- the id is in this list now, or in none, and each other id is where it was
pub record SetsOnly (old new : ListsView) (id : ℕ) (list : Option ℕ) : Type 0 where
  pub changed : where_of new id ≡ list
  pub others : (other : ℕ) → other ≢ id → where_of new other ≡ where_of old other
