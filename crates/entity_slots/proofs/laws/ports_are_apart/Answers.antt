use Rattle.entity_slots.proofs.Found.{found-only}
use Rattle.entity_slots.proofs.laws.ports_are_apart.Goals as goal

pub returns : goal.returns
returns c = found-only
