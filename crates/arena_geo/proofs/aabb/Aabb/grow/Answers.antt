use Rattle.arena_geo.proofs.Ranges.{grown_box}
use Rattle.arena_geo.proofs.aabb.Aabb.grow.Goals as goal

pub returns : goal.returns
returns c = rw (← c.self.view_is) (grown_box _ _ _ _ _ c.sub.ensures c.add.ensures c.self.invariant.ordered c.requires.not_negative c.new.ensures)
