use Rattle.core_steps.proofs.Storing.{stored_next_stands}
use Rattle.core_steps.proofs.laws.stored_next_stands.Goals as goal

pub returns : goal.returns
returns c = stored_next_stands
