use Rattle.core_steps.proofs.Again.{loaded_again_stands}
use Rattle.core_steps.proofs.laws.loaded_again_stands.Goals as goal

pub returns : goal.returns
returns c = loaded_again_stands
