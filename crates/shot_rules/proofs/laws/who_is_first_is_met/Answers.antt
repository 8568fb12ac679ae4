use Rattle.shot_rules.proofs.Hits.{first_is_met}
use Rattle.shot_rules.proofs.laws.who_is_first_is_met.Goals as goal

pub returns : goal.returns
returns c = first_is_met
