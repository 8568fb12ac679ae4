use Rattle.speed_rules.proofs.Together.{heights_are_known}
use Rattle.speed_rules.proofs.laws.heights_are_known.Goals as goal

pub returns : goal.returns
returns c = heights_are_known
