use Rattle.shot_rules.proofs.Hits.{one_is_hit}
use Rattle.shot_rules.proofs.laws.at_most_one_is_hit.Goals as goal

pub returns : goal.returns
returns c = one_is_hit
