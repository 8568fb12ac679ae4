use Rattle.speed_rules.proofs.Crossing.{acceleration_acts_along_the_wish}
use Rattle.speed_rules.proofs.laws.acceleration_acts_along_the_wish.Goals as goal

pub returns : goal.returns
returns c = acceleration_acts_along_the_wish
