use Rattle.areanode.proofs.CutsAbove.{leaves_are_reached_at_each_cut}
use Rattle.areanode.proofs.laws.leaves_are_reached_at_each_cut.Goals as goal

pub returns : goal.returns
returns c = leaves_are_reached_at_each_cut
