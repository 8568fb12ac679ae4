use Rattle.core_steps.proofs.Takes.{refused_node_stands}
use Rattle.core_steps.proofs.laws.refused_node_stands.Goals as goal

pub returns : goal.returns
returns c = refused_node_stands
