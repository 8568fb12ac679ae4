use Rattle.crew.proofs.Slots.{slot_of}
use Rattle.crew.proofs.steps.exchange.Goals as goal

pub slot_mut-requires : goal.slot_mut-requires
slot_mut-requires g c = (c.requires.table, (c.requires.free.kept, slot_of _ _ _ c.requires.free.is))
