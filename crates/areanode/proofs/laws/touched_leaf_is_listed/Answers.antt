use Rattle.areanode.proofs.Nodes.{touched_leaf_is_listed}
use Rattle.areanode.proofs.laws.touched_leaf_is_listed.Goals as goal

pub returns : goal.returns
returns c = touched_leaf_is_listed
