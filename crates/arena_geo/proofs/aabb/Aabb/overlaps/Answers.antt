use Rattle.std.proofs.Common.{rules}
use Rattle.std.proofs.lemmas.Int.{to_z-of_z}
use Rattle.arena_geo.proofs.aabb.Aabb.overlaps.Goals as goal
use Rattle.arena_geo.proofs.aabb.Aabb.overlaps.Goals.{then-overlaps_on, else-overlaps_on}

pub returns-then-overlaps_on-2 : goal.returns-then-overlaps_on-2
returns-then-overlaps_on-2 c =
    rw (← c.self.view_is, ← c.o.view_is) (elim c.if-overlaps_on.branch [ then-overlaps_on w ↦ search (rules, to_z-of_z) | else-overlaps_on w ↦ search (rules, to_z-of_z) ])

pub returns-else-overlaps_on-2 : goal.returns-else-overlaps_on-2
returns-else-overlaps_on-2 c =
    rw (← c.self.view_is, ← c.o.view_is) (elim c.if-overlaps_on.branch [ then-overlaps_on w ↦ search (rules, to_z-of_z) | else-overlaps_on w ↦ search (rules, to_z-of_z) ])
