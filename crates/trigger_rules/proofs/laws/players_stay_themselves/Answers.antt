use Rattle.trigger_rules.proofs.Taken.{stay_themselves}
use Rattle.trigger_rules.proofs.laws.players_stay_themselves.Goals as goal

pub returns : goal.returns
returns c = stay_themselves
