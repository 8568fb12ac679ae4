use Rattle.areanode.proofs.Sides.{areas_are_cut_in_half}
use Rattle.areanode.proofs.laws.areas_are_cut_in_half.Goals as goal

pub returns : goal.returns
returns c = areas_are_cut_in_half
