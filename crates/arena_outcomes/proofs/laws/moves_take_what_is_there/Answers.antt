use Rattle.arena_outcomes.proofs.Lawful.Moves.{take_what_is_there}
use Rattle.arena_outcomes.proofs.laws.moves_take_what_is_there.Goals as goal

pub returns : goal.returns
returns c = take_what_is_there
