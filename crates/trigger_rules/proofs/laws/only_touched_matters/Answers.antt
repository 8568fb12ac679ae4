use Rattle.trigger_rules.proofs.Taken.{only_touched}
use Rattle.trigger_rules.proofs.laws.only_touched_matters.Goals as goal

pub returns : goal.returns
returns c = only_touched
