use Rattle.trigger_rules.proofs.Gaining.{goals_take}
use Rattle.trigger_rules.proofs.laws.goals_take_what_is_carried.Goals as goal

pub returns : goal.returns
returns c = goals_take
