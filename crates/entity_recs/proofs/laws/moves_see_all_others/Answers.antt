use Rattle.entity_recs.proofs.Seeing.{moves_see_all_others}
use Rattle.entity_recs.proofs.laws.moves_see_all_others.Goals as goal

pub returns : goal.returns
returns c = moves_see_all_others
