use Rattle.speed_rules.proofs.Capping.{acceleration_acts_below_the_cap}
use Rattle.speed_rules.proofs.laws.acceleration_acts_below_the_cap.Goals as goal

pub returns : goal.returns
returns c = acceleration_acts_below_the_cap
