use Rattle.shot_rules.proofs.Conditions.{conditions_known}
use Rattle.shot_rules.proofs.laws.firing_is_known.Goals as goal

pub returns : goal.returns
returns c = conditions_known
