use Rattle.shot_rules.proofs.Ways.{shot_is_box}
use Rattle.shot_rules.proofs.aiming.shot_box.Goals as goal

pub from_corners-requires : goal.from_corners-requires
from_corners-requires c = shot_is_box c.args.origin c.sub.result c.add.result c.requires c.sub.ensures c.add.ensures
