-- A list of records that are near.
use Rattle.std.specs.Prelude.{ℕ, List}
use Rattle.entity_recs.specs.declared.rec.Rec.{Rec}

-- the records, in the order in which they were put in, and for how many there is room in all
pub record NearView : Type 0 where
  pub items : List Rec
  pub room : ℕ
