use Rattle.bot_ways.proofs.EdgesKnown.{edges_are_known}
use Rattle.bot_ways.proofs.laws.edges_are_known.Goals as goal

pub returns : goal.returns
returns c = edges_are_known
