use Rattle.arena_geo.proofs.Ranges.{IsBox-grown}
use Rattle.arena_geo.proofs.aabb.Aabb.grown.Goals as goal

pub invariant_of-result : goal.invariant_of-result
invariant_of-result c =
    rw (c.sub.ensures, c.add.ensures) (IsBox-grown _ _ c.self.invariant.ordered c.requires.not_negative (rw (← c.self.view_is) at c.requires.in_range))
