use Rattle.core_progress.proofs.Turns.{turns_are_rounds}
use Rattle.core_progress.proofs.laws.turns_are_rounds.Goals as goal

pub returns : goal.returns
returns c = turns_are_rounds
