use Rattle.arena_geo.proofs.Ranges.{IsBox-moved}
use Rattle.arena_geo.proofs.aabb.Aabb.shifted.Goals as goal

pub invariant_of-result : goal.invariant_of-result
invariant_of-result c =
    rw (c.add.ensures, c.add-2.ensures) (IsBox-moved _ _ c.self.invariant.ordered (rw (← c.self.view_is) at c.requires))
