use Rattle.speed_rules.proofs.Together.{wishes_are_followed}
use Rattle.speed_rules.proofs.laws.wishes_are_followed.Goals as goal

pub returns : goal.returns
returns c = wishes_are_followed
