use Rattle.speed_rules.proofs.Together.{walkers_are_slowed}
use Rattle.speed_rules.proofs.laws.walkers_are_slowed.Goals as goal

pub returns : goal.returns
returns c = walkers_are_slowed
