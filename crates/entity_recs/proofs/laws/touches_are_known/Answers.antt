use Rattle.entity_recs.proofs.Reach.{touches_are_known}
use Rattle.entity_recs.proofs.laws.touches_are_known.Goals as goal

pub returns : goal.returns
returns c = touches_are_known
