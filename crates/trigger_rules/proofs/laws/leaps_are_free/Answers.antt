use Rattle.trigger_rules.proofs.Taken.{leaps_free}
use Rattle.trigger_rules.proofs.laws.leaps_are_free.Goals as goal

pub returns : goal.returns
returns c = leaps_free
