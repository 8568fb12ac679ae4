use Rattle.arena_map.proofs.Boxes.{item_is_box}
use Rattle.arena_map.proofs.rules.item_box.Goals as goal

pub from_corners-requires : goal.from_corners-requires
from_corners-requires c = rw (c.add.ensures, c.add-2.ensures) (item_is_box c.args.at c.requires)
