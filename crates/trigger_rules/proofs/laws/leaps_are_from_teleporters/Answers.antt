use Rattle.trigger_rules.proofs.Leaping.{leaps_from_teleporters}
use Rattle.trigger_rules.proofs.laws.leaps_are_from_teleporters.Goals as goal

pub returns : goal.returns
returns c = leaps_from_teleporters
