use Rattle.areanode.proofs.Nodes.{node_is_over_leaves}
use Rattle.areanode.proofs.laws.node_is_over_leaves.Goals as goal

pub returns : goal.returns
returns c = node_is_over_leaves
