use Rattle.speed_rules.proofs.Capping.{acceleration_stops_at_the_cap}
use Rattle.speed_rules.proofs.laws.acceleration_stops_at_the_cap.Goals as goal

pub returns : goal.returns
returns c = acceleration_stops_at_the_cap
