use Rattle.areanode.proofs.Points.{areas_have_their_parts}
use Rattle.areanode.proofs.laws.areas_have_their_parts.Goals as goal

pub returns : goal.returns
returns c = areas_have_their_parts
