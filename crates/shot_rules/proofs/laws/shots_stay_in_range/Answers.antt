use Rattle.shot_rules.proofs.Ways.{stays_in_range}
use Rattle.shot_rules.proofs.laws.shots_stay_in_range.Goals as goal

pub returns : goal.returns
returns c = stays_in_range
