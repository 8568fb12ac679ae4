use Rattle.trigger_rules.proofs.Gaining.{scores_counted}
use Rattle.trigger_rules.proofs.laws.scores_are_counted.Goals as goal

pub returns : goal.returns
returns c = scores_counted
