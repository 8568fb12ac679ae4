use Rattle.packet_read.specs.Faults.{form_in}
use Rattle.packet_read.specs.Reading.{packet_of}
use Rattle.packet_read.proofs.Rules.{keeps, kept_spelled, spelled_no_fault}
use Rattle.packet_read.proofs.laws.no_fault_where_spelled.Goals as goal

pub returns : goal.returns
returns c = λ bytes all. (
  λ none. record { packet = packet_of (form_in bytes) bytes; spells = kept_spelled bytes all (keeps bytes none) },
  λ s. spelled_no_fault bytes s.packet s.spells,
)
