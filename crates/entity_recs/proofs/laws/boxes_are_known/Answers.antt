use Rattle.entity_recs.proofs.KnownBoxes.{boxes_are_known}
use Rattle.entity_recs.proofs.laws.boxes_are_known.Goals as goal

pub returns : goal.returns
returns c = boxes_are_known
