use Rattle.std.proofs.Common.{rules}
use Rattle.std.proofs.lemmas.Int.{to_z-of_z}
use Rattle.arena_geo.proofs.aabb.Aabb.contains.Goals as goal
use Rattle.arena_geo.proofs.aabb.Aabb.contains.Goals.{then-contains_on, else-contains_on}

pub returns-then-contains_on-2 : goal.returns-then-contains_on-2
returns-then-contains_on-2 c =
    rw (← c.self.view_is, ← c.o.view_is) (elim c.if-contains_on.branch [ then-contains_on w ↦ search (rules, to_z-of_z) | else-contains_on w ↦ search (rules, to_z-of_z) ])

pub returns-else-contains_on-2 : goal.returns-else-contains_on-2
returns-else-contains_on-2 c =
    rw (← c.self.view_is, ← c.o.view_is) (elim c.if-contains_on.branch [ then-contains_on w ↦ search (rules, to_z-of_z) | else-contains_on w ↦ search (rules, to_z-of_z) ])
