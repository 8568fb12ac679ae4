use Rattle.trigger_rules.proofs.Taken.{never_fall}
use Rattle.trigger_rules.proofs.laws.scores_never_fall.Goals as goal

pub returns : goal.returns
returns c = never_fall
