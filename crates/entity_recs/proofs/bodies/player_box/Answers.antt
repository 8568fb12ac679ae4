use Rattle.entity_recs.proofs.Standing.{player_is_box}
use Rattle.entity_recs.proofs.bodies.player_box.Goals as goal

pub from_corners-requires : goal.from_corners-requires
from_corners-requires c = rw (c.add.ensures, c.add-2.ensures) (player_is_box c.args.origin c.requires)
