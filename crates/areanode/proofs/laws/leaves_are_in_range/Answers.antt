use Rattle.areanode.proofs.Nodes.{leaves_are_in_range}
use Rattle.areanode.proofs.laws.leaves_are_in_range.Goals as goal

pub returns : goal.returns
returns c = leaves_are_in_range
