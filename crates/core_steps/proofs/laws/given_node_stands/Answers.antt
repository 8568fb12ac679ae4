use Rattle.core_steps.proofs.GiveBacks.{given_node_stands}
use Rattle.core_steps.proofs.laws.given_node_stands.Goals as goal

pub returns : goal.returns
returns c = given_node_stands
