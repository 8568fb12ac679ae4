use Rattle.shot_rules.proofs.Hits.{grows}
use Rattle.shot_rules.proofs.laws.damage_grows.Goals as goal

pub returns : goal.returns
returns c = grows
