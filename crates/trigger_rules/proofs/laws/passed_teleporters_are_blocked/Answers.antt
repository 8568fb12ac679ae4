use Rattle.trigger_rules.proofs.Doing.{teleporters_blocked}
use Rattle.trigger_rules.proofs.laws.passed_teleporters_are_blocked.Goals as goal

pub returns : goal.returns
returns c = teleporters_blocked
