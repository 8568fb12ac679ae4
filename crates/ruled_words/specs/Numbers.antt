-- Records whose numbers are those of their types.
use Rattle.std.specs.Prelude.{◌^◌, ◌<◌}
use Rattle.entity_recs.specs.declared.rec.Rec.{Rec}

-- the score and the number of the record have 32 bits, as those of each record in code have
pub record HasSmallNumbers (r : Rec) : Type 0 where
  pub score : r.score < 2 ^ 32
  pub seq : r.seq < 2 ^ 32
