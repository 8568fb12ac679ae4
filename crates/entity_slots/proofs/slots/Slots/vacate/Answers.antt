use Rattle.entity_slots.proofs.Changes.{without_slot-are_slots}
use Rattle.entity_slots.proofs.slots.Slots.vacate.Goals as goal

pub invariant_of-self : goal.invariant_of-self
invariant_of-self c = without_slot-are_slots c.self.inside.ports c.from.result c.self.invariant
