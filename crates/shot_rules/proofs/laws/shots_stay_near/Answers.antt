use Rattle.shot_rules.proofs.Ways.{stays_near}
use Rattle.shot_rules.proofs.laws.shots_stay_near.Goals as goal

pub returns : goal.returns
returns c = stays_near
