use Rattle.areanode.proofs.Sides.{box_goes_to_its_side}
use Rattle.areanode.proofs.laws.box_goes_to_its_side.Goals as goal

pub returns : goal.returns
returns c = box_goes_to_its_side
