use Rattle.trigger_rules.proofs.Taken.{only_leaps}
use Rattle.trigger_rules.proofs.laws.only_leaps_move.Goals as goal

pub returns : goal.returns
returns c = only_leaps
