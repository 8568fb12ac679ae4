use Rattle.entity_slots.proofs.Changes.{no_ports-are_slots}
use Rattle.entity_slots.proofs.slots.Slots.new.Goals as goal

pub invariant_of-result : goal.invariant_of-result
invariant_of-result c = no_ports-are_slots
