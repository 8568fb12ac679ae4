use Rattle.std.proofs.Common.{◌∙◌, sym, arith}
use Rattle.std.proofs.lemmas.Grind.{common_steps}
use Rattle.byte_lists.proofs.Bytes.{bytes_are}
use Rattle.packet_read.proofs.Rules.{found_spells, spelled_read, read_fault, fault_read}
use Rattle.packet_read.proofs.reading.read_packet.Goals as goal

pub returns-in-1-clause-answer : goal.returns-in-1-clause-answer
returns-in-1-clause-answer c = grind (arith, common_steps)

pub returns-in-1-clause-found : goal.returns-in-1-clause-found
returns-in-1-clause-found c =
    let bytes = bytes_are c.args.bytes.now (λ i. omega (arith, c.type_inv.bytes i)) in
    found_spells c.args.bytes.now c.read_kind.result bytes (returns-in-1-clause-answer c)

pub returns-in-1-clause-only : goal.returns-in-1-clause-only
returns-in-1-clause-only c = λ p s. returns-in-1-clause-answer c ∙ spelled_read c.args.bytes.now p s

pub returns-in-2-clause-answer : goal.returns-in-2-clause-answer
returns-in-2-clause-answer c = grind (arith, common_steps)

pub returns-in-2-clause-found : goal.returns-in-2-clause-found
returns-in-2-clause-found c =
    let bytes = bytes_are c.args.bytes.now (λ i. omega (arith, c.type_inv.bytes i)) in
    found_spells c.args.bytes.now c.read_kind_2.result bytes (returns-in-2-clause-answer c)

pub returns-in-2-clause-only : goal.returns-in-2-clause-only
returns-in-2-clause-only c = λ p s. returns-in-2-clause-answer c ∙ spelled_read c.args.bytes.now p s

pub returns-in-2-clause-fault : goal.returns-in-2-clause-fault
returns-in-2-clause-fault c = λ fault. (
  λ e. read_fault c.args.bytes.now fault (sym (returns-in-2-clause-answer c) ∙ e),
  λ e. returns-in-2-clause-answer c ∙ fault_read c.args.bytes.now fault e,
)
