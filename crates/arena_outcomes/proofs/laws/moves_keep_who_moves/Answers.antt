use Rattle.arena_outcomes.proofs.Lawful.Moves.{keep_who_moves}
use Rattle.arena_outcomes.proofs.laws.moves_keep_who_moves.Goals as goal

pub returns : goal.returns
returns c = keep_who_moves
