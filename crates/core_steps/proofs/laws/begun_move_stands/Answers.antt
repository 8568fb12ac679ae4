use Rattle.core_steps.proofs.Owned.{begun_move_stands}
use Rattle.core_steps.proofs.laws.begun_move_stands.Goals as goal

pub returns : goal.returns
returns c = begun_move_stands
