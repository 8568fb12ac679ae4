use Rattle.shot_rules.proofs.Wounds.{first_is_hit}
use Rattle.shot_rules.proofs.laws.who_stands_first_is_hit.Goals as goal

pub returns : goal.returns
returns c = first_is_hit
