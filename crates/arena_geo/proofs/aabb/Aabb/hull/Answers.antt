use Rattle.arena_geo.proofs.Ranges.{IsBox-hull}
use Rattle.arena_geo.proofs.aabb.Aabb.hull.Goals as goal

pub invariant_of-result : goal.invariant_of-result
invariant_of-result c = rw (c.min.ensures, c.max.ensures) (IsBox-hull _ _ c.self.invariant c.o.invariant)
