use Rattle.shot_rules.proofs.Hits.{stay_shooters}
use Rattle.shot_rules.proofs.laws.shooters_stay_themselves.Goals as goal

pub returns : goal.returns
returns c = stay_shooters
