use Rattle.entity_recs.proofs.Standing.{records_have_boxes}
use Rattle.entity_recs.proofs.laws.records_have_boxes.Goals as goal

pub returns : goal.returns
returns c = records_have_boxes
