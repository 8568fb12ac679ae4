use Rattle.speed_rules.proofs.Entering.{what_enters_the_clamp_is_near}
use Rattle.speed_rules.proofs.laws.what_enters_the_clamp_is_near.Goals as goal

pub returns : goal.returns
returns c = what_enters_the_clamp_is_near
