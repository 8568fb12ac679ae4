use Rattle.areanode.proofs.Nodes.{leaf_over_leaf}
use Rattle.areanode.proofs.laws.leaf_over_leaf.Goals as goal

pub returns : goal.returns
returns c = leaf_over_leaf
