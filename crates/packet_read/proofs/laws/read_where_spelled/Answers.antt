use Rattle.packet_read.proofs.Rules.{read_spells, spelled_read, read_fault, fault_read}
use Rattle.packet_read.proofs.laws.read_where_spelled.Goals as goal

pub returns : goal.returns
returns c = record {
  packet = λ bytes all p. (read_spells bytes all p, spelled_read bytes p);
  fault = λ bytes fault. (read_fault bytes fault, fault_read bytes fault);
}
