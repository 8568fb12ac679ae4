use Rattle.shot_rules.proofs.Hits.{only_way_matters}
use Rattle.shot_rules.proofs.laws.only_the_way_matters.Goals as goal

pub returns : goal.returns
returns c = only_way_matters
