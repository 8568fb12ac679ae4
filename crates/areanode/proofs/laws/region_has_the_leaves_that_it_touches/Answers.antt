use Rattle.areanode.proofs.LeafAreas.{region_has_the_leaves_that_it_touches}
use Rattle.areanode.proofs.laws.region_has_the_leaves_that_it_touches.Goals as goal

pub returns : goal.returns
returns c = region_has_the_leaves_that_it_touches
