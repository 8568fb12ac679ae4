use Rattle.arena_outcomes.proofs.Lawful.Moves.{follows_moves}
use Rattle.arena_outcomes.proofs.laws.touching_follows_moves.Goals as goal

pub returns : goal.returns
returns c = follows_moves
