use Rattle.bot_ways.proofs.OneWay.{ways_are_unique}
use Rattle.bot_ways.proofs.laws.ways_are_unique.Goals as goal

pub returns : goal.returns
returns c = ways_are_unique
