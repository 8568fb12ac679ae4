use Rattle.trigger_rules.proofs.Gaining.{ammunition_counted}
use Rattle.trigger_rules.proofs.laws.ammunition_is_counted.Goals as goal

pub returns : goal.returns
returns c = ammunition_counted
