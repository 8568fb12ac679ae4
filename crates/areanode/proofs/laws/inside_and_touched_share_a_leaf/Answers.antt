use Rattle.areanode.proofs.Nodes.{inside_and_touched_share_a_leaf}
use Rattle.areanode.proofs.laws.inside_and_touched_share_a_leaf.Goals as goal

pub returns : goal.returns
returns c = inside_and_touched_share_a_leaf
