use Rattle.std.proofs.Common.{◌∙◌, sym, arith}
use Rattle.byte_lists.proofs.Bytes.{bytes_are}
use Rattle.snapshot_write.proofs.Rules.{found_spells, spelled_read, read_fault, fault_read}
use Rattle.snapshot_write.proofs.reading.read_snapshot.Goals as goal

pub returns-clause-found : goal.returns-clause-found
returns-clause-found c =
    let all = bytes_are c.args.bytes.now (λ i. omega (arith, c.type_inv.bytes i)) in
    found_spells c.args.bytes.now c.read_or_fault.result all c.read_or_fault.ensures

pub returns-clause-only : goal.returns-clause-only
returns-clause-only c = λ s spells. c.read_or_fault.ensures ∙ spelled_read c.args.bytes.now s spells

pub returns-clause-fault : goal.returns-clause-fault
returns-clause-fault c = λ fault. (
  λ e. read_fault c.args.bytes.now fault (sym c.read_or_fault.ensures ∙ e),
  λ e. c.read_or_fault.ensures ∙ fault_read c.args.bytes.now fault e,
)
