use Rattle.areanode.proofs.Sides.{leaves_are_on_its_side}
use Rattle.areanode.proofs.laws.leaves_are_on_its_side.Goals as goal

pub returns : goal.returns
returns c = leaves_are_on_its_side
