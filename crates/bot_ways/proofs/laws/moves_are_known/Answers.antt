use Rattle.bot_ways.proofs.PlansRead.{moves_are_known}
use Rattle.bot_ways.proofs.laws.moves_are_known.Goals as goal

pub returns : goal.returns
returns c = moves_are_known
