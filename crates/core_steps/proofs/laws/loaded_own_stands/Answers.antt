use Rattle.core_steps.proofs.Owned.{loaded_own_stands}
use Rattle.core_steps.proofs.laws.loaded_own_stands.Goals as goal

pub returns : goal.returns
returns c = loaded_own_stands
