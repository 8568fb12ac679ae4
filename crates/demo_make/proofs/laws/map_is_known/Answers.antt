use Rattle.demo_make.proofs.MapKept.{map_is_known}
use Rattle.demo_make.proofs.laws.map_is_known.Goals as goal

pub returns : goal.returns
returns c = map_is_known
