use Rattle.trigger_rules.proofs.Reach.{touched_are_in_reach}
use Rattle.trigger_rules.proofs.laws.touched_are_in_reach.Goals as goal

pub returns : goal.returns
returns c = touched_are_in_reach
