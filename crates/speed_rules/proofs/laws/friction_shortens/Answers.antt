use Rattle.speed_rules.proofs.Slowing.{friction_shortens}
use Rattle.speed_rules.proofs.laws.friction_shortens.Goals as goal

pub returns : goal.returns
returns c = friction_shortens
