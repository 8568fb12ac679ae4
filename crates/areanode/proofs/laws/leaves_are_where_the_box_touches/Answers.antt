use Rattle.areanode.proofs.LeafAreas.{leaves_are_where_the_box_touches}
use Rattle.areanode.proofs.laws.leaves_are_where_the_box_touches.Goals as goal

pub returns : goal.returns
returns c = leaves_are_where_the_box_touches
