use Rattle.arena_outcomes.proofs.Lawful.Moves.{are_made}
use Rattle.arena_outcomes.proofs.laws.moves_are_made.Goals as goal

pub returns : goal.returns
returns c = are_made
