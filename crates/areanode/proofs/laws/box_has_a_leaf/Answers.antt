use Rattle.areanode.proofs.Nodes.{box_has_a_leaf}
use Rattle.areanode.proofs.laws.box_has_a_leaf.Goals as goal

pub returns : goal.returns
returns c = box_has_a_leaf
