use Rattle.core_steps.proofs.Seats.{loaded_count_stands}
use Rattle.core_steps.proofs.laws.loaded_count_stands.Goals as goal

pub returns : goal.returns
returns c = loaded_count_stands
