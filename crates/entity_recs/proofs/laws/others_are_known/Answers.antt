use Rattle.entity_recs.proofs.Seeing.{others_are_known}
use Rattle.entity_recs.proofs.laws.others_are_known.Goals as goal

pub returns : goal.returns
returns c = others_are_known
