use Rattle.areanode.proofs.Sides.{node_is_on_its_side}
use Rattle.areanode.proofs.laws.node_is_on_its_side.Goals as goal

pub returns : goal.returns
returns c = node_is_on_its_side
