use Rattle.trigger_rules.proofs.Taken.{were_there}
use Rattle.trigger_rules.proofs.laws.items_were_there.Goals as goal

pub returns : goal.returns
returns c = were_there
