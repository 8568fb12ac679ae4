use Rattle.std.proofs.Common.{rules}
use Rattle.std.proofs.lemmas.Int.{to_z-of_z}
use Rattle.arena_geo.proofs.aabb.Aabb.touches.Goals as goal
use Rattle.arena_geo.proofs.aabb.Aabb.touches.Goals.{then-touches_on, else-touches_on}

pub returns-then-touches_on-2 : goal.returns-then-touches_on-2
returns-then-touches_on-2 c =
    rw (← c.self.view_is, ← c.o.view_is) (elim c.if-touches_on.branch [ then-touches_on w ↦ search (rules, to_z-of_z) | else-touches_on w ↦ search (rules, to_z-of_z) ])

pub returns-else-touches_on-2 : goal.returns-else-touches_on-2
returns-else-touches_on-2 c =
    rw (← c.self.view_is, ← c.o.view_is) (elim c.if-touches_on.branch [ then-touches_on w ↦ search (rules, to_z-of_z) | else-touches_on w ↦ search (rules, to_z-of_z) ])
