use Rattle.entity_slots.proofs.Found.{free_slot-least}
use Rattle.entity_slots.proofs.laws.least_free_slot_is_least.Goals as goal

pub returns : goal.returns
returns c = λ ports are slot e. free_slot-least ports are.count slot e
