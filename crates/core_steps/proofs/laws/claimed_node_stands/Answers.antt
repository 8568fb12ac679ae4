use Rattle.core_steps.proofs.Claiming.{claimed_node_stands}
use Rattle.core_steps.proofs.laws.claimed_node_stands.Goals as goal

pub returns : goal.returns
returns c = claimed_node_stands
