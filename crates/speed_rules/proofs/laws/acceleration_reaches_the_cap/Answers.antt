use Rattle.speed_rules.proofs.Capping.{acceleration_reaches_the_cap}
use Rattle.speed_rules.proofs.laws.acceleration_reaches_the_cap.Goals as goal

pub returns : goal.returns
returns c = acceleration_reaches_the_cap
