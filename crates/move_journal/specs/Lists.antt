-- A world that is held as a list of records, and lists where each record's id is its place.
use Rattle.std.specs.Prelude.{◌≡◌, ℕ, ◌+◌, ◌==◌, List, [], ◌∷◌, map}
use Rattle.std.specs.List.{IsDistinct}
use Rattle.entity_recs.specs.declared.rec.Rec.{Rec}
use Rattle.entity_recs.specs.Worlds.{World}

-- no two of the records have one id
abbrev pub HaveIdsApart : List Rec → Type 0
HaveIdsApart rs = IsDistinct (λ a b. a.id == b.id) rs

-- the ids of the records are their places, the first of which is this one
abbrev pub AreNumbered : ℕ → List Rec → Type 0
AreNumbered n [] = Unit {0}
AreNumbered n (r ∷ rs) = (r.id ≡ n) × AreNumbered (n + 1) rs

-- the world is that of these records
pub record IsWorldOf (w : World) (rs : List Rec) : Type 0 where
  pub ids : w.ids ≡ map (λ r. r.id) rs
  pub records : map w.record_of w.ids ≡ rs
