use Rattle.snapshot_write.proofs.Views.{box_of_view}
use Rattle.snapshot_write.proofs.writing.view.Goals as goal

pub from_corners-requires : goal.from_corners-requires
from_corners-requires c = box_of_view c.args.origin c.sub.result c.add.result c.requires c.sub.ensures c.add.ensures
