use Rattle.demo_make.proofs.Repeats.{packets_are_read}
use Rattle.demo_make.proofs.laws.packets_are_read.Goals as goal

pub returns : goal.returns
returns c = packets_are_read
