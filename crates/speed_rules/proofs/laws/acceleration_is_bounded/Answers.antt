use Rattle.speed_rules.proofs.Pushing.{acceleration_is_bounded}
use Rattle.speed_rules.proofs.laws.acceleration_is_bounded.Goals as goal

pub returns : goal.returns
returns c = acceleration_is_bounded
