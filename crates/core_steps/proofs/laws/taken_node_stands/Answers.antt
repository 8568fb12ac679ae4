use Rattle.core_steps.proofs.Takes.{taken_node_stands}
use Rattle.core_steps.proofs.laws.taken_node_stands.Goals as goal

pub returns : goal.returns
returns c = taken_node_stands
