use Rattle.snapshot_write.specs.Reading.{snapshot_in}
use Rattle.snapshot_write.proofs.Rules.{keeps, kept_spelled, below_are, spelled_no_fault}
use Rattle.snapshot_write.proofs.laws.no_fault_where_spelled.Goals as goal

pub returns : goal.returns
returns c = λ bytes all. (
  λ none. record { snapshot = snapshot_in bytes; spells = kept_spelled bytes (below_are bytes all) (keeps bytes none) },
  λ s. spelled_no_fault bytes s.snapshot s.spells,
)
