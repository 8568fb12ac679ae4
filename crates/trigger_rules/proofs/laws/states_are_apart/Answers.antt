use Rattle.trigger_rules.proofs.Bounds.{states_apart}
use Rattle.trigger_rules.proofs.laws.states_are_apart.Goals as goal

pub returns : goal.returns
returns c = states_apart
