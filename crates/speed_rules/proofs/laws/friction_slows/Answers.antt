use Rattle.speed_rules.proofs.Slowing.{friction_slows}
use Rattle.speed_rules.proofs.laws.friction_slows.Goals as goal

pub returns : goal.returns
returns c = friction_slows
