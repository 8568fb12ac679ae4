-- The records of the start, each by its id.
use Rattle.std.specs.Prelude.{ℕ, ◌==◌, List, [], ◌∷◌, Option, Some, None, if◌then◌else◌}
use Rattle.entity_recs.specs.declared.rec.Rec.{Rec}

-- the first of the records with this id, if there is one
abbrev pub record_at : List Rec → ℕ → Option Rec
record_at [] id = None
record_at (r ∷ rs) id = if r.id == id then Some r else record_at rs id
