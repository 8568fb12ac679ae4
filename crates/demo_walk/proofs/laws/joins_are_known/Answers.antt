use Rattle.demo_walk.proofs.Schedules.{joins_are_known}
use Rattle.demo_walk.proofs.laws.joins_are_known.Goals as goal

pub returns : goal.returns
returns c = joins_are_known
