use Rattle.demo_walk.proofs.Schedules.{packets_are_read}
use Rattle.demo_walk.proofs.laws.packets_are_read.Goals as goal

pub returns : goal.returns
returns c = packets_are_read
