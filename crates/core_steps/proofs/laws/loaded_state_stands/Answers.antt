use Rattle.core_steps.proofs.Sensing.{loaded_state_stands}
use Rattle.core_steps.proofs.laws.loaded_state_stands.Goals as goal

pub returns : goal.returns
returns c = loaded_state_stands
