use Rattle.core_steps.proofs.Starts.{start_stands}
use Rattle.core_steps.proofs.laws.start_stands.Goals as goal

pub returns : goal.returns
returns c = start_stands
