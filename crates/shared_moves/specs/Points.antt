-- A moment of a move as contracts see it, and the points that have an entry.
use Rattle.std.specs.Prelude.{ℕ, Bool, true, false, Option}
use Rattle.entity_recs.specs.declared.effect.Entry.{Entry}
use Rattle.shared_moves.specs.declared.gate_point.GatePoint.{GatePoint}
use Rattle.shared_moves.specs.declared.gate_point.GatePoint.TheVariants.{Leaves, Computed, Committed}

-- the pass's number, where its move is, the player's slot, the player's own number of the move, and the move's entry
pub record MomentView : Type 0 where
  pub worker : ℕ
  pub point : GatePoint
  pub slot : ℕ
  pub seq : ℕ
  pub entry : Option Entry

-- the moves at this point have an entry: those that are committed
abbrev pub has_entry : GatePoint → Bool
has_entry Leaves = false
has_entry Computed = false
has_entry Committed = true
