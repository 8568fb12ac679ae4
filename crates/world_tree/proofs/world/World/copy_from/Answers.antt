use Rattle.world_tree.specs.Worlds.{world_of}
use Rattle.world_tree.proofs.Kept.{live_fit}
use Rattle.world_tree.proofs.world.World.copy_from.Goals as goal

pub copy_from-requires : goal.copy_from-requires
copy_from-requires c =
    live_fit (world_of c.o.inside.tree c.o.inside.records.items c.o.inside.lists) c.o.inside.boxes.items c.o.inside.live c.o.invariant
