use Rattle.arena_outcomes.proofs.Lawful.Moves.{are_where_they_moved}
use Rattle.arena_outcomes.proofs.laws.players_are_where_they_moved.Goals as goal

pub returns : goal.returns
returns c = are_where_they_moved
