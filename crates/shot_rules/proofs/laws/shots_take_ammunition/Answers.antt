use Rattle.shot_rules.proofs.Hits.{take_ammunition}
use Rattle.shot_rules.proofs.laws.shots_take_ammunition.Goals as goal

pub returns : goal.returns
returns c = take_ammunition
