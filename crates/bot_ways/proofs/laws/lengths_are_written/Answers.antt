use Rattle.bot_ways.proofs.PlansRead.{lengths_are_written}
use Rattle.bot_ways.proofs.laws.lengths_are_written.Goals as goal

pub returns : goal.returns
returns c = lengths_are_written
