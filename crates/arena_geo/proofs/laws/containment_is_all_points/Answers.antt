use Rattle.arena_geo.proofs.CommonPoints.{containment_is_all_points}
use Rattle.arena_geo.proofs.laws.containment_is_all_points.Goals as goal

pub returns : goal.returns
returns c = containment_is_all_points
