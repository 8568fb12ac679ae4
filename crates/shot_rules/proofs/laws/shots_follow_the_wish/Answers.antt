use Rattle.shot_rules.proofs.Along.{follow_the_wish}
use Rattle.shot_rules.proofs.laws.shots_follow_the_wish.Goals as goal

pub returns : goal.returns
returns c = follow_the_wish
