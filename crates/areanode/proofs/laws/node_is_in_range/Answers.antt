use Rattle.areanode.proofs.Nodes.{node_is_in_range}
use Rattle.areanode.proofs.laws.node_is_in_range.Goals as goal

pub returns : goal.returns
returns c = node_is_in_range
