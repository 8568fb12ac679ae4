use Rattle.arena_geo.proofs.Ranges.{moved_box}
use Rattle.arena_geo.proofs.aabb.Aabb.moved.Goals as goal

pub returns : goal.returns
returns c = rw (← c.self.view_is) (moved_box _ _ _ _ _ c.add.ensures c.add-2.ensures c.self.invariant.ordered c.new.ensures)
