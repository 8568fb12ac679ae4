use Rattle.demo_make.proofs.Clear.{spawns_are_clear}
use Rattle.demo_make.proofs.laws.spawns_are_clear.Goals as goal

pub returns : goal.returns
returns c = spawns_are_clear
