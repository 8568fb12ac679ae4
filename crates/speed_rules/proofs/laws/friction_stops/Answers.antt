use Rattle.speed_rules.proofs.Slowing.{friction_stops}
use Rattle.speed_rules.proofs.laws.friction_stops.Goals as goal

pub returns : goal.returns
returns c = friction_stops
