use Rattle.core_steps.proofs.GiveBacks.{yielded_node_stands}
use Rattle.core_steps.proofs.laws.yielded_node_stands.Goals as goal

pub returns : goal.returns
returns c = yielded_node_stands
