use Rattle.std.proofs.Common.{rules}
use Rattle.std.proofs.lemmas.Int.{to_z-of_z}
use Rattle.demo_walk.proofs.places.meet_on_the_floor.Goals as goal

pub returns-then-overlaps_on : goal.returns-then-overlaps_on
returns-then-overlaps_on c = search (rules, to_z-of_z)

pub returns-else-overlaps_on : goal.returns-else-overlaps_on
returns-else-overlaps_on c = search (rules, to_z-of_z)
