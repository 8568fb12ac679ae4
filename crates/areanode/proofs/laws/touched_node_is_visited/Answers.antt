use Rattle.areanode.proofs.Nodes.{touched_node_is_visited}
use Rattle.areanode.proofs.laws.touched_node_is_visited.Goals as goal

pub returns : goal.returns
returns c = touched_node_is_visited
