use Rattle.trigger_rules.proofs.Taken.{ids_rise}
use Rattle.trigger_rules.proofs.laws.got_ids_rise.Goals as goal

pub returns : goal.returns
returns c = ids_rise
