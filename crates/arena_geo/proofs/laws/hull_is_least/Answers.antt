use Rattle.arena_geo.proofs.Containment.{hull_is_least}
use Rattle.arena_geo.proofs.laws.hull_is_least.Goals as goal

pub returns : goal.returns
returns c = hull_is_least
