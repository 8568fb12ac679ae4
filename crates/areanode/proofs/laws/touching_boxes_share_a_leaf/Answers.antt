use Rattle.areanode.proofs.Nodes.{touching_boxes_share_a_leaf}
use Rattle.areanode.proofs.laws.touching_boxes_share_a_leaf.Goals as goal

pub returns : goal.returns
returns c = touching_boxes_share_a_leaf
