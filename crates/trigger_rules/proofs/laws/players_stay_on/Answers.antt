use Rattle.trigger_rules.proofs.Bounds.{stay_on}
use Rattle.trigger_rules.proofs.laws.players_stay_on.Goals as goal

pub returns : goal.returns
returns c = stay_on
