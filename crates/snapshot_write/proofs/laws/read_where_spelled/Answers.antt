use Rattle.snapshot_write.proofs.Rules.{read_spells, spelled_read, read_fault, fault_read}
use Rattle.snapshot_write.proofs.laws.read_where_spelled.Goals as goal

pub returns : goal.returns
returns c = record {
  snapshot = λ bytes all s. (read_spells bytes all s, spelled_read bytes s);
  fault = λ bytes fault. (read_fault bytes fault, fault_read bytes fault);
}
