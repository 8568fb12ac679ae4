use Rattle.entity_recs.proofs.Seeing.{effects_change_what_is_listed}
use Rattle.entity_recs.proofs.laws.effects_change_what_is_listed.Goals as goal

pub returns : goal.returns
returns c = effects_change_what_is_listed
