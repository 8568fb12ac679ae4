use Rattle.shot_rules.proofs.Hits.{are_in_the_way}
use Rattle.shot_rules.proofs.laws.hits_are_in_the_way.Goals as goal

pub returns : goal.returns
returns c = are_in_the_way
