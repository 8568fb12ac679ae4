use Rattle.bot_ways.proofs.PlansRead.{plans_are_recordings}
use Rattle.bot_ways.proofs.laws.plans_are_recordings.Goals as goal

pub returns : goal.returns
returns c = plans_are_recordings
