use Rattle.entity_recs.proofs.Standing.{records_have_boxes}
use Rattle.entity_recs.proofs.bodies.body_box.Goals as goal

pub from_corners-requires : goal.from_corners-requires
from_corners-requires c = rw (c.add.ensures, c.add-2.ensures) (records_have_boxes c.args.r.now c.requires).body
