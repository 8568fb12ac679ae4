use Rattle.trigger_rules.proofs.Taken.{stay_few}
use Rattle.trigger_rules.proofs.laws.things_stay_few.Goals as goal

pub returns : goal.returns
returns c = stay_few
