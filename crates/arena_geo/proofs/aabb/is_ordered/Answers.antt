use Rattle.std.proofs.Common.{rules}
use Rattle.std.proofs.lemmas.Int.{to_z-of_z}
use Rattle.arena_geo.proofs.aabb.is_ordered.Goals as goal
use Rattle.arena_geo.proofs.aabb.is_ordered.Goals.{then-lo-hi, else-lo-hi}

pub returns-then-lo-hi-2 : goal.returns-then-lo-hi-2
returns-then-lo-hi-2 c =
    elim c.if-lo-hi.branch [
      | then-lo-hi w ↦ (λ h. search (rules, to_z-of_z), λ h. search (rules, to_z-of_z))
      | else-lo-hi w ↦ absurd (cc)
    ]
